-- What the tests of `floor` tell of x: which values are their own floor and ceiling, and that the others go by a whole number beside them. Assumes nothing.
use Rattle.std.proofs.Common.{◌≡◌, ℕ, zero, suc, ◌+◌, ◌*◌, ◌%◌, ◌^◌, ◌<◌, ◌≤◌, Bool, true, false, cond, not, T, ltb, ℤ, pos, sym, refl, ap, ◌∙◌, arith, ltb→lt, lt→ltb, nltb→le}
use native.Mathlib.Nat.{zero-mod}
use lib.Ieee.{Float, nan, inf, fin, Format, binary64, prec, emax, low, up, down, odd, units, round, neg, lt, fits, of_int}
use lib.Ieee.Positive.{num, den}
use lib.Ieee.Fits.{round_is}
use Rattle.floats.specs.Whole.{under, over, floor_of, ceil_of}
use Rattle.floats.proofs.Exact.{floor-exact, ceil-exact, large}
use Rattle.floats.proofs.Cut.{nought, bound}

-- ---- the sign goes through the rounding
neg-odd : (d q k l : ℕ) → neg (odd d false q k l) ≡ odd d true q k l
unfolding neg odd
neg-odd d zero k l = refl
neg-odd d (suc q) k l = refl

neg-units : (f : Format) (q k : ℕ) → neg (units f false q k) ≡ units f true q k
unfolding units neg
neg-units f q k = go (ltb (q * 2 ^ k) (2 ^ (low f + suc (emax f))))
  where
    go : (b : Bool) → neg (cond b (odd (suc (prec f)) false q k (low f)) (inf false)) ≡ cond b (odd (suc (prec f)) true q k (low f)) (inf true)
    go true = neg-odd (suc (prec f)) q k (low f)
    go false = refl

pub neg-round : (f : Format) (n d : ℕ) → neg (round f false n d) ≡ round f true n d
neg-round f n d = ap neg (round_is f false n d) ∙ neg-units f _ _ ∙ sym (round_is f true n d)

-- ---- the tests of `floor`
pub not-under : (m : ℕ) (e : ℤ) → T (lt (fin false m e) nought) → ⊥
unfolding lt
not-under m e h = none (m * up e) (down e) (ltb→lt (m * up e * 1) (0 * 1 * down e) h)
  where
    none : (n d : ℕ) → n * 1 < 0 * 1 * d → ⊥
    none n d l = omega arith

-- x is -y, and y is in the range of `whole_over`
pub neg-range : (x : Float) → T (lt x nought) → T (lt (neg bound) x) → T (lt nought (neg x)) × T (lt (neg x) bound)
unfolding lt neg
neg-range nan a b = absurd a
neg-range (inf true) a b = absurd b
neg-range (inf false) a b = absurd a
neg-range (fin false m e) a b = absurd (not-under m e a)
neg-range (fin true m e) a b = (lt→ltb (0 * 1 * down e) (m * up e * 1) (turn (m * up e) (down e) (ltb→lt 0 (m * up e * 1 + 0 * 1 * down e) a)), b)
  where
    turn : (n d : ℕ) → 0 < n * 1 + 0 * 1 * d → 0 * 1 * d < n * 1
    turn n d h = omega arith

-- x's floor by the whole number n on the side of x towards minus infinity
pub floor-above : (x : Float) (n : ℕ) → T (lt nought x) → T (lt x bound) → n ≡ under (num x) (den x) → of_int binary64 (pos n) ≡ floor_of x
unfolding of_int floor_of
floor-above nan n a b u = absurd (unfold lt in a)
floor-above (inf true) n a b u = absurd (unfold lt in a)
floor-above (inf false) n a b u = absurd (unfold lt in b)
floor-above (fin true m e) n a b u = absurd (unfold lt in a)
floor-above (fin false m e) n a b u = ap (λ (k : ℕ). round binary64 false k 1) u

pub floor-below : (x : Float) (n : ℕ) → T (lt x nought) → T (lt (neg bound) x) → n ≡ over (num (neg x)) (den (neg x)) → neg (of_int binary64 (pos n)) ≡ floor_of x
unfolding of_int neg floor_of
floor-below nan n a b u = absurd (unfold lt in a)
floor-below (inf true) n a b u = absurd (unfold lt in b)
floor-below (inf false) n a b u = absurd (unfold lt in a)
floor-below (fin false m e) n a b u = absurd (not-under m e a)
floor-below (fin true m e) n a b u = neg-round binary64 n 1 ∙ ap (λ (k : ℕ). round binary64 true k 1) u

neg-neg : (x : Float) → neg (neg x) ≡ x
unfolding neg
neg-neg nan = refl
neg-neg (inf true) = refl
neg-neg (inf false) = refl
neg-neg (fin true m e) = refl
neg-neg (fin false m e) = refl

pub neg-floor : (x : Float) → neg (floor_of (neg x)) ≡ ceil_of x
unfolding neg ceil_of floor_of
neg-floor nan = refl
neg-floor (inf true) = refl
neg-floor (inf false) = refl
neg-floor (fin false m e) = ap neg (sym (neg-round binary64 (over (m * up e) (down e)) 1)) ∙ neg-neg (round binary64 false (over (m * up e) (down e)) 1)
neg-floor (fin true m e) = neg-round binary64 (under (m * up e) (down e)) 1

-- the same of the other one, by `neg-floor` at -x
pub neg-ceil : (x : Float) → neg (ceil_of (neg x)) ≡ floor_of x
neg-ceil x = ap neg (sym (neg-floor (neg x))) ∙ neg-neg (floor_of (neg (neg x))) ∙ ap floor_of (neg-neg x)

-- x is 2 ^ 52 at least, -2 ^ 52 at most, or neither above nor below 0: then it is whole, or no number at all
abbrev Itself : Float → Type 0
Itself x = (x ≡ floor_of x) × (x ≡ ceil_of x)

itself : (s : Bool) (m : ℕ) (e : ℤ) → T (fits binary64 (fin s m e)) → m * up e % down e ≡ 0 → Itself (fin s m e)
itself s m e t r = (sym (floor-exact s m e t r), sym (ceil-exact s m e t r))

no_number : Itself nan
unfolding floor_of ceil_of
no_number = (refl, refl)

infinite : (s : Bool) → Itself (inf s)
unfolding floor_of ceil_of
infinite s = (refl, refl)

pub high-tidy : (n d : ℕ) → 1 * 2 ^ 52 * d ≤ n * 1 → 2 ^ 52 * d ≤ n
high-tidy n d h = omega arith

pub at_least : (x : Float) → T (fits binary64 x) → T (lt nought x) → T (not (lt x bound)) → Itself x
unfolding lt
at_least nan t a b = no_number
at_least (inf s) t a b = infinite s
at_least (fin true m e) t a b = absurd a
at_least (fin false m e) t a b = itself false m e t (large false m e t (high-tidy (m * up e) (down e) (nltb→le (m * up e * 1) (1 * 2 ^ 52 * down e) b)))

pub at_most : (x : Float) → T (fits binary64 x) → T (lt x nought) → T (not (lt (neg bound) x)) → Itself x
unfolding lt neg
at_most nan t a b = no_number
at_most (inf s) t a b = infinite s
at_most (fin false m e) t a b = absurd (not-under m e a)
at_most (fin true m e) t a b = itself true m e t (large true m e t (high-tidy (m * up e) (down e) (nltb→le (m * up e * 1) (1 * 2 ^ 52 * down e) b)))

zero-whole : (n d : ℕ) → n ≡ 0 → n % d ≡ 0
zero-whole n d h = ap (λ (k : ℕ). k % d) h ∙ zero-mod d

pub neither : (x : Float) → T (fits binary64 x) → T (not (lt nought x)) → T (not (lt x nought)) → Itself x
unfolding lt
neither nan t a b = no_number
neither (inf s) t a b = infinite s
neither (fin false m e) t a b = itself false m e t (zero-whole (m * up e) (down e) (none (m * up e) (down e) (nltb→le (0 * 1 * down e) (m * up e * 1) a)))
  where
    none : (n d : ℕ) → n * 1 ≤ 0 * 1 * d → n ≡ 0
    none n d h = omega arith
neither (fin true m e) t a b = itself true m e t (zero-whole (m * up e) (down e) (none (m * up e) (down e) (nltb→le 0 (m * up e * 1 + 0 * 1 * down e) b)))
  where
    none : (n d : ℕ) → n * 1 + 0 * 1 * d ≤ 0 → n ≡ 0
    none n d h = omega arith
