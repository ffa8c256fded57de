-- What the functions of `lot` cite: the whole numbers on either side of a value between 0 and 2 ^ 52, the multiples of a lot on either side of a whole number,
-- both in one step, and which answer of `lot_shares` the tests of `floor_to_lot` select. Assumes nothing.
use Rattle.std.proofs.Common.{◌≡◌, ℕ, ◌+◌, ◌-◌, ◌*◌, ◌/◌, ◌%◌, ◌^◌, ◌<◌, ◌≤◌, Bool, true, false, not, T, ℤ, pos, sym, refl, ap, ◌∙◌, subst, le_trans, le_of_eq, mul-le-mul_right, mul_assoc, mul_comm, add-mul, le_antisymm, mul-pos, one-mul, div-add-mod', zero-mul, arith, nltb→le, le-leb}
use native.Mathlib.Nat.{zero-div, zero-mod, div-div-eq-div-mul}
use Rattle.std.specs.declared.option.Option.TheVariants.{None, Some}
use borrow.Author.Tests.{lt-leb}
use lib.Ieee.{Float, nan, inf, fin, binary64, up, down, round, neg, lt, of_int, to_unsigned, fits}
use lib.Ieee.Fits.{down_pos}
use lib.Ieee.Positive.{num, den}
use Rattle.floats.specs.Whole.{under, over, floor_of}
use Rattle.floats.specs.Lots.{lot_of, beyond, lot_shares}
use Rattle.floats.proofs.Exact.{over-is}
use Rattle.floats.proofs.Cut.{yes, no, nought, bound, in-range, cut-is, less-val, not-less-val, left_over, none_over, part-val}
use Rattle.floats.proofs.Ranges.{neg-round, not-under, high-tidy, neither}
use Rattle.floats.proofs.Fractions.{over-reaches, over-least}

-- ---- 0 < x < 2 ^ 52: the whole numbers not above and not below x
pub whole_part : (x : Float) → T (lt nought x) → T (lt x bound) → to_unsigned 64 x ≡ under (num x) (den x)
whole_part nan a b = absurd (unfold lt in a)
whole_part (inf true) a b = absurd (unfold lt in a)
whole_part (inf false) a b = absurd (unfold lt in b)
whole_part (fin true m e) a b = absurd (unfold lt in a)
whole_part (fin false m e) a b = cut-is m e b

pub whole-more : (x : Float) (n : ℕ) → T (lt nought x) → T (lt x bound) → n ≡ under (num x) (den x) → lt (of_int binary64 (pos n)) x ≡ true → n + 1 ≡ over (num x) (den x)
unfolding of_int
whole-more nan n a b u h = absurd (unfold lt in a)
whole-more (inf true) n a b u h = absurd (unfold lt in a)
whole-more (inf false) n a b u h = absurd (unfold lt in b)
whole-more (fin true m e) n a b u h = absurd (unfold lt in a)
whole-more (fin false m e) n a b u h =
    let k = m * up e / down e in
    let l : T (lt (round binary64 false k 1) (fin false m e)) = subst (λ (j : ℕ). T (lt (round binary64 false j 1) (fin false m e))) u (yes h) in
    ap (λ (j : ℕ). j + 1) u ∙ sym (left_over (m * up e) (down e) (less-val (round binary64 false k 1) k m e (part-val m e b) l))

pub whole_same : (x : Float) (n : ℕ) → T (lt nought x) → T (lt x bound) → n ≡ under (num x) (den x) → lt (of_int binary64 (pos n)) x ≡ false → n ≡ over (num x) (den x)
unfolding of_int
whole_same nan n a b u h = absurd (unfold lt in a)
whole_same (inf true) n a b u h = absurd (unfold lt in a)
whole_same (inf false) n a b u h = absurd (unfold lt in b)
whole_same (fin true m e) n a b u h = absurd (unfold lt in a)
whole_same (fin false m e) n a b u h =
    let k = m * up e / down e in
    let l : T (not (lt (round binary64 false k 1) (fin false m e))) = subst (λ (j : ℕ). T (not (lt (round binary64 false j 1) (fin false m e)))) u (no h) in
    u ∙ sym (none_over (m * up e) (down e) (not-less-val (round binary64 false k 1) k m e (part-val m e b) l))

-- ---- the multiples of L not above and not below n
pub multiple-part : (n L : ℕ) → (n - n % L ≡ under n L * L) × (n - n % L ≤ n)
multiple-part n L = let h = div-add-mod' n L in (omega arith, omega arith)

module _ (n L low : ℕ) (is : low ≡ under n L * L) where
  pub multiple-more : low < n → low + L ≡ over n L * L
  multiple-more h =
      ap (λ (k : ℕ). k + L) is
      ∙ sym (ap (λ (k : ℕ). k * L) (left_over n L (subst (λ (k : ℕ). k < n) is h)) ∙ add-mul (n / L) 1 L ∙ ap (λ (k : ℕ). n / L * L + k) (one-mul L))

  pub multiple-same : n ≤ low → low ≡ over n L * L
  multiple-same h = is ∙ sym (ap (λ (k : ℕ). k * L) (none_over n L (subst (λ (k : ℕ). n ≤ k) is h)))

-- a / (b * c), rounded up, in two steps
over-mul : (a b c : ℕ) → 0 < b → 0 < c → over a (b * c) ≡ over (over a b) c
over-mul a b c B C =
    let x = over a b in
    let y = over x c in
    let z = over a (b * c) in
    le_antisymm
    (over-least a (b * c) y (mul-pos B C)
    (le_trans (over-reaches a b B) (le_trans (mul-le-mul_right b (over-reaches x c C)) (le_of_eq (mul_assoc y c b ∙ ap (λ (k : ℕ). y * k) (mul_comm c b))))))
    (over-least x c z C (over-least a b (z * c) B (le_trans (over-reaches a (b * c) (mul-pos B C)) (le_of_eq (ap (λ (k : ℕ). z * k) (mul_comm b c) ∙ sym (mul_assoc z c b))))))

-- ---- the three returns of `lot_floor`: x above zero, below zero, and a zero
pub lot-above : (L : ℕ) (x : Float) (n r : ℕ) → T (lt nought x) → T (lt x bound) → n ≡ under (num x) (den x) → r ≡ under n L * L → of_int binary64 (pos r) ≡ lot_of L x
unfolding of_int lot_of
lot-above L nan n r a b u v = absurd (unfold lt in a)
lot-above L (inf true) n r a b u v = absurd (unfold lt in a)
lot-above L (inf false) n r a b u v = absurd (unfold lt in b)
lot-above L (fin true m e) n r a b u v = absurd (unfold lt in a)
lot-above L (fin false m e) n r a b u v = ap (λ (k : ℕ). round binary64 false k 1) (v ∙ ap (λ (k : ℕ). k / L * L) u ∙ ap (λ (k : ℕ). k * L) (div-div-eq-div-mul (m * up e) (down e) L))

pub lot-below : (L : ℕ) (x : Float) (n r : ℕ) → 0 < L → T (lt x nought) → T (lt (neg bound) x) → n ≡ over (num (neg x)) (den (neg x)) → r ≡ over n L * L → neg (of_int binary64 (pos r)) ≡ lot_of L x
unfolding of_int lot_of neg
lot-below L nan n r P a b u v = absurd (unfold lt in a)
lot-below L (inf true) n r P a b u v = absurd (unfold lt in b)
lot-below L (inf false) n r P a b u v = absurd (unfold lt in a)
lot-below L (fin false m e) n r P a b u v = absurd (not-under m e a)
lot-below L (fin true m e) n r P a b u v =
    neg-round binary64 r 1
    ∙ ap (λ (k : ℕ). round binary64 true k 1) (v ∙ ap (λ (k : ℕ). over k L * L) u ∙ ap (λ (k : ℕ). k * L) (sym (over-mul (m * up e) (down e) L (down_pos e) P)))

-- no parts of any size are no lots
over_none : (b : ℕ) → over 0 b ≡ 0
over_none b = over-is 0 b (zero-mod b) ∙ zero-div b

zero-floor : (s : Bool) (L m : ℕ) (e : ℤ) → m * up e ≡ 0 → floor_of (fin s m e) ≡ lot_of L (fin s m e)
unfolding floor_of lot_of
zero-floor false L m e z = ap (λ (k : ℕ). round binary64 false k 1) (rw z (zero-div (down e) ∙ sym (ap (λ (k : ℕ). k * L) (zero-div (down e * L)) ∙ zero-mul L)))
zero-floor true L m e z = ap (λ (k : ℕ). round binary64 true k 1) (rw z (over_none (down e) ∙ sym (ap (λ (k : ℕ). k * L) (over_none (down e * L)) ∙ zero-mul L)))

zero-parts : (s : Bool) (m : ℕ) (e : ℤ) → T (not (lt nought (fin s m e))) → T (not (lt (fin s m e) nought)) → m * up e ≡ 0
unfolding lt
zero-parts false m e a b = let h = nltb→le (0 * 1 * down e) (m * up e * 1) a in omega arith
zero-parts true m e a b = let h = nltb→le 0 (m * up e * 1 + 0 * 1 * down e) b in omega arith

pub lot-zero : (L : ℕ) (x : Float) → T (fits binary64 x) → T (not (lt nought x)) → T (not (lt x nought)) → x ≡ lot_of L x
lot-zero L nan t a b = unfold lot_of in refl
lot-zero L (inf s) t a b = unfold lot_of in refl
lot-zero L (fin s m e) t a b = (neither (fin s m e) t a b).0 ∙ zero-floor s L m e (zero-parts s m e a b)

-- ---- the tests of `floor_to_lot`
pub within : (x : Float) → T (lt (neg bound) x) → T (lt x bound) → beyond x ≡ false
unfolding lt neg
within nan a b = absurd a
within (inf true) a b = absurd a
within (inf false) a b = absurd b
within (fin false m e) a b = lt-leb (2 ^ 52 * down e) (m * up e) (in-range m e b)
within (fin true m e) a b = lt-leb (2 ^ 52 * down e) (m * up e) (in-range m e a)

-- a sum of sizes is above 0 where one of them is 2 ^ 52
some_size : (n d : ℕ) → 0 < d → n * 1 + 1 * 2 ^ 52 * d ≤ 0 → ⊥
some_size n d h k = omega arith

pub too-low : (x : Float) → T (not (lt (neg bound) x)) → beyond x ≡ true
unfolding lt neg
too-low nan a = refl
too-low (inf s) a = refl
too-low (fin false m e) a = let h = nltb→le 0 (1 * 2 ^ 52 * down e + m * up e * 1) a in absurd (some_size (m * up e) (down e) (down_pos e) (omega arith))
too-low (fin true m e) a = le-leb (2 ^ 52 * down e) (m * up e) (high-tidy (m * up e) (down e) (nltb→le (m * up e * 1) (1 * 2 ^ 52 * down e) a))

pub too-high : (x : Float) → T (not (lt x bound)) → beyond x ≡ true
unfolding lt
too-high nan a = refl
too-high (inf s) a = refl
too-high (fin false m e) a = le-leb (2 ^ 52 * down e) (m * up e) (high-tidy (m * up e) (down e) (nltb→le (m * up e * 1) (1 * 2 ^ 52 * down e) a))
too-high (fin true m e) a = absurd (some_size (m * up e) (down e) (down_pos e) (nltb→le 0 (m * up e * 1 + 1 * 2 ^ 52 * down e) a))

-- ---- the three answers of `lot_shares`
module _ (L : ℕ) (x : Float) where
  pub of_one : L ≤ 1 → Some (floor_of x) ≡ lot_shares L x
  unfolding lot_shares
  of_one h = rw (le-leb L 1 h)

  pub of-lot : 1 < L → beyond x ≡ false → Some (lot_of L x) ≡ lot_shares L x
  unfolding lot_shares
  of-lot h b = rw (lt-leb L 1 h, b)

  pub of_none : 1 < L → beyond x ≡ true → None ≡ lot_shares L x
  unfolding lot_shares
  of_none h b = rw (lt-leb L 1 h, b)
