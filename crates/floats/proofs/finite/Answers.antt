-- `floats::finite` meets its contract: x - x is a zero for a number, and a NaN otherwise, which equals nothing. Assumes nothing.
use Rattle.std.proofs.Common.{◌≡◌, ℕ, ◌-◌, ◌*◌, ◌<◌, Bool, true, false, cond, not, pos, sym, refl, ap, ◌∙◌, le_refl, mul-pos, zero-mul, mul-one, lit<, le-ltb}
use native.Mathlib.Nat.{sub_self}
use lib.Ieee.{Float, nan, inf, fin, binary64, up, down, round, sum, add, sub, neg, eq, level, of_bits}
use lib.Ieee.Fits.{down_pos}
use lib.Ieee.Exact.{HasValue, round_exact}
use lib.Ieee.Scale.{finite}
use Rattle.floats.proofs.Fractions.{first-zero}
use Rattle.floats.proofs.finite.Goals as goal

-- ±a / c less itself
none_left : (s : Bool) (a c : ℕ) → sum binary64 s a (not s) a c ≡ round binary64 false 0 c
unfolding sum
none_left true a c = ap (λ (b : Bool). cond b (round binary64 false (a - a) c) (round binary64 b (a - a) c)) (le-ltb a a (le_refl a)) ∙ ap (λ (n : ℕ). round binary64 false n c) (sub_self a)
none_left false a c = ap (λ (b : Bool). cond b (round binary64 true (a - a) c) (round binary64 false (a - a) c)) (le-ltb a a (le_refl a)) ∙ ap (λ (n : ℕ). round binary64 false n c) (sub_self a)

-- zero parts of any size round to zero, exactly
round-zero : (c : ℕ) → 0 < c → HasValue (round binary64 false 0 c) false 0 c
round-zero c C = round_exact binary64 false 0 c 0 0 C (lit< tt) (lit< tt) (sym (zero-mul c))

-- a zero of either sign equals 0.0
zeros-level : (s : Bool) (a b : ℕ) → a ≡ 0 → b ≡ 0 → level s a false b ≡ true
zeros-level s a b p q = ap (λ (n : ℕ). level s n false b) p ∙ ap (λ (n : ℕ). level s 0 false n) q ∙ either s
  where
    either : (s : Bool) → level s 0 false 0 ≡ true
    either true = refl
    either false = refl

equals-zero : (x : Float) (c : ℕ) → 0 < c → HasValue x false 0 c → eq x (fin false 0 (pos 0)) ≡ true
unfolding eq
equals-zero nan c C v = absurd v
equals-zero (inf s) c C v = absurd v
equals-zero (fin s m e) c C v = zeros-level s (m * up e * 1) (0 * down e) (mul-one (m * up e) ∙ first-zero (m * up e) c C (v.1 ∙ zero-mul (down e))) (zero-mul (down e))

-- x - x equals 0.0 exactly where x is a number
less-itself : (x : Float) → eq (sub binary64 x x) (fin false 0 (pos 0)) ≡ finite x
unfolding sub add neg eq
less-itself nan = refl
less-itself (inf true) = refl
less-itself (inf false) = refl
less-itself (fin s m e) =
    let c = down e * down e in
    ap (λ (y : Float). eq y (fin false 0 (pos 0))) (none_left s (m * up e * down e) c)
    ∙ equals-zero (round binary64 false 0 c) c (mul-pos (down_pos e) (down_pos e)) (round-zero c (mul-pos (down_pos e) (down_pos e)))

pub returns : goal.returns
unfolding of_bits
returns c = less-itself c.args.x
