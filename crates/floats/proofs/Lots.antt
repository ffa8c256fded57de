-- What `lot_shares` gives is the greatest multiple of the lot L that is not above x, with x's sign, for every x of a size below 2 ^ 52 and every L of 32 bits but 0.
-- At lot 1 it is `floor_of` of every x. Assumes nothing.
use Rattle.std.proofs.Common.{◌≡◌, ℕ, ◌+◌, ◌*◌, ◌/◌, ◌%◌, ◌^◌, ◌<◌, ◌≤◌, Bool, true, false, cond, not, T, eqb, leb, ◌↔◌, ℤ, sym, refl, ap, ◌∙◌, subst, le_trans, le_of_eq, lt_of_le_of_lt, add-zero, mul-le-mul_right, mul_assoc, add-mul, lt_of_mul-lt-mul_right, mul-pos, one-mul, div-add-mod', le-div_iff_mul-le, zero-mul, mul-one, mul_right_comm, div-mul-le_self, arith, eqb→eq, leb-false, leb-true}
use native.Mathlib.Nat.{mul-mod_left}
use Rattle.std.specs.declared.option.Option.TheVariants.{None, Some}
use Rattle.std.proofs.lemmas.Option.{same_Some, none-some}
use borrow.Author.Tests.{not-true}
use lib.Dec.{nleb→lt}
use lib.Ieee.{Float, nan, inf, fin, binary64, up, down, round, le}
use lib.Ieee.Fits.{down_pos, eq→eqb}
use lib.Ieee.Bits.{is_true}
use lib.Ieee.Exact.{HasValue}
use lib.Ieee.Back.{round_whole}
use Rattle.floats.specs.Whole.{over, floor_of}
use Rattle.floats.specs.Lots.{lot_under, lot_over, lot_of, beyond, lot_shares, multiple, LotDown}
use Rattle.floats.proofs.Cut.{yes, unlike}
use Rattle.floats.proofs.Fractions.{over-reaches, over-least, Is, plus, of-plus, minus, of-minus, apart, meet, meet-back, below, above, of-below, of-above, both, first-zero, zero-times}
use Rattle.floats.proofs.Nearest.{over-le}
use Rattle.floats.proofs.Multiples.{of_one, of-lot, of_none}

-- ---- k * L in size, for k parts of b * L
swap : (k b L : ℕ) → k * (b * L) ≡ k * L * b
swap k b L = sym (mul_assoc k b L) ∙ mul_right_comm k b L

-- a multiple of L is so many times L, and what is so many times L is a multiple of it
times : (L q : ℕ) (g : ℤ) → T (eqb (q * up g % (down g * L)) 0) → Is q g (q * up g / (down g * L) * L)
times L q g t =
    let b = down g * L in
    let j = q * up g / b in
    mul-one (q * up g) ∙ sym (div-add-mod' (q * up g) b) ∙ ap (λ (x : ℕ). j * b + x) (eqb→eq (q * up g % b) 0 t) ∙ add-zero (j * b) ∙ swap j (down g) L

of-times : (L p : ℕ) (d : ℤ) (k : ℕ) → Is p d (k * L) → T (eqb (p * up d % (down d * L)) 0)
of-times L p d k v = eq→eqb (ap (λ (x : ℕ). x % (down d * L)) (sym (mul-one (p * up d)) ∙ v ∙ sym (swap k (down d) L)) ∙ mul-mod_left k (down d * L))

-- ---- r is k lots with x's sign
module _ (L : ℕ) (m : ℕ) (e : ℤ) (k : ℕ) where
  down-plus : (r : Float) → HasValue r false (k * L) 1 → k * (down e * L) ≤ m * up e → ((j : ℕ) → j * (down e * L) ≤ m * up e → j ≤ k) → LotDown L (fin false m e) r
  down-plus nan v h most = absurd v
  down-plus (inf s) v h most = absurd v
  down-plus (fin true p d) v h most = absurd (unlike v.0)
  down-plus (fin false p d) v h most =
      record { is-multiple = of-times L p d k v.1; not-above = plus p d m e (below p d (k * L) m e v.1 (le_trans (le_of_eq (sym (swap k (down e) L))) h)); nearest = near; same_sign = refl }
    where
      near : (y : Float) → T (multiple L y) → T (le y (fin false m e)) → T (le y (fin false p d))
      near nan w l = absurd w
      near (inf s) w l = absurd w
      near (fin true q g) w l = apart q g p d
      near (fin false q g) w l =
          let j = q * up g / (down g * L) in
          let n = times L q g w in
          plus q g p d (both q g (j * L) p d (k * L) n v.1 (mul-le-mul_right L (most j (le_trans (le_of_eq (swap j (down e) L)) (of-below q g (j * L) m e n (of-plus q g m e l))))))

  down-minus : (r : Float) → HasValue r true (k * L) 1 → m * up e ≤ k * (down e * L) → ((j : ℕ) → m * up e ≤ j * (down e * L) → k ≤ j) → LotDown L (fin true m e) r
  down-minus nan v h least = absurd v
  down-minus (inf s) v h least = absurd v
  down-minus (fin false p d) v h least = absurd (unlike (sym v.0))
  down-minus (fin true p d) v h least =
      record { is-multiple = of-times L p d k v.1; not-above = minus p d m e (above p d (k * L) m e v.1 (le_trans h (le_of_eq (swap k (down e) L)))); nearest = near; same_sign = refl }
    where
      near : (y : Float) → T (multiple L y) → T (le y (fin true m e)) → T (le y (fin true p d))
      near nan w l = absurd w
      near (inf s) w l = absurd w
      near (fin false q g) w l =
          let z = meet q g m e l in
          let none_left = least 0 (le_of_eq (first-zero (m * up e) (down g) (down_pos g) z.1 ∙ sym (zero-mul (down e * L)))) in
          let k0 : k ≡ 0 = omega arith in
          let p0 : p * up d ≡ 0 = sym (mul-one (p * up d)) ∙ v.1 ∙ zero-times (k * L) (down d) (zero-times k L k0) in
          meet-back q g p d (zero-times (q * up g) (down d) (first-zero (q * up g) (down e) (down_pos e) z.0)) (zero-times (p * up d) (down g) p0)
      near (fin true q g) w l =
          let j = q * up g / (down g * L) in
          let n = times L q g w in
          minus q g p d (both p d (k * L) q g (j * L) v.1 n (mul-le-mul_right L (least j (le_trans (of-above q g (j * L) m e n (of-minus q g m e l)) (le_of_eq (sym (swap j (down e) L)))))))

-- ---- the multiple is at most 2 ^ 53, so that the format holds it
part_small : (L a b : ℕ) → a < 2 ^ 52 * b → lot_under a b L < 2 ^ 52
part_small L a b h =
    let k = a / (b * L) in
    lt_of_mul-lt-mul_right b (lt_of_le_of_lt (le_of_eq (sym (swap k b L))) (lt_of_le_of_lt (div-mul-le_self a (b * L)) h))

under-fits : (L a b : ℕ) → a < 2 ^ 52 * b → lot_under a b L ≤ 2 ^ 53
under-fits L a b h = let l = part_small L a b h in omega arith

-- the one not below is at most a lot more
over-fits : (L a b : ℕ) → L < 2 ^ 32 → a < 2 ^ 52 * b → lot_over a b L ≤ 2 ^ 53
over-fits L a b Q h =
    let l = part_small L a b h in
    let k = a / (b * L) in
    let o : over a (b * L) * L ≤ k * L + L = le_trans (mul-le-mul_right L (over-le a (b * L))) (le_of_eq (add-mul k 1 L ∙ ap (λ (x : ℕ). k * L + x) (one-mul L))) in
    omega arith

lot-nearest : (L : ℕ) (x : Float) → 0 < L → L < 2 ^ 32 → T (not (beyond x)) → LotDown L x (lot_of L x)
unfolding lot_of
lot-nearest L nan P Q b = absurd b
lot-nearest L (inf s) P Q b = absurd b
lot-nearest L (fin false m e) P Q b =
    let k = m * up e / (down e * L) in
    down-plus L m e k (round binary64 false (k * L) 1) (round_whole binary64 false (k * L) (under-fits L (m * up e) (down e) (nleb→lt (2 ^ 52 * down e) (m * up e) b)))
    (div-mul-le_self (m * up e) (down e * L)) (λ j h. (le-div_iff_mul-le (mul-pos (down_pos e) P)).1 h)
lot-nearest L (fin true m e) P Q b =
    let k = over (m * up e) (down e * L) in
    down-minus L m e k (round binary64 true (k * L) 1) (round_whole binary64 true (k * L) (over-fits L (m * up e) (down e) Q (nleb→lt (2 ^ 52 * down e) (m * up e) b)))
    (over-reaches (m * up e) (down e * L) (mul-pos (down_pos e) P)) (λ j h. over-least (m * up e) (down e * L) j (mul-pos (down_pos e) P) h)

-- ---- the theorems
-- lot 1 is the rounding to whole numbers
pub one-is-floor : (x : Float) → lot_of 1 x ≡ floor_of x
unfolding lot_of floor_of
one-is-floor nan = refl
one-is-floor (inf s) = refl
one-is-floor (fin false m e) = ap (λ (k : ℕ). round binary64 false k 1) (mul-one (m * up e / (down e * 1)) ∙ ap (λ (b : ℕ). m * up e / b) (mul-one (down e)))
one-is-floor (fin true m e) = ap (λ (k : ℕ). round binary64 true k 1) (mul-one (over (m * up e) (down e * 1)) ∙ ap (λ (b : ℕ). over (m * up e) b) (mul-one (down e)))

pub lot-one : (x : Float) → lot_shares 1 x ≡ Some (floor_of x)
lot-one x = sym (of_one 1 x (omega arith))

-- below the bound there are shares, those of `lot_of`
is-lot-of : (L : ℕ) (x : Float) → 0 < L → T (not (beyond x)) → lot_shares L x ≡ Some (lot_of L x)
is-lot-of L x P b = by (leb L 1) refl
  where
    by : (t : Bool) → leb L 1 ≡ t → lot_shares L x ≡ Some (lot_of L x)
    by true h =
        let small = leb-true L 1 h in
        let one : L ≡ 1 = omega arith in
        subst (λ (l : ℕ). lot_shares l x ≡ Some (lot_of l x)) (sym one) (lot-one x ∙ ap Some (sym (one-is-floor x)))
    by false h = sym (of-lot L x (leb-false L 1 h) (not-true (beyond x) (is_true (not (beyond x)) b)))

-- what is answered is exactly the greatest multiple
pub lot-rounds : (L : ℕ) (x r : Float) → 0 < L → L < 2 ^ 32 → T (not (beyond x)) → lot_shares L x ≡ Some r → LotDown L x r
lot-rounds L x r P Q b h = subst (LotDown L x) (same_Some (lot_of L x) r (sym (is-lot-of L x P b) ∙ h)) (lot-nearest L x P Q b)

-- nothing is answered exactly where the lot is above 1 and x is beyond
pub lot-refuses : (L : ℕ) (x : Float) → (lot_shares L x ≡ None) ↔ ((1 < L) × T (beyond x))
unfolding lot_shares
lot-refuses L x = (by (leb L 1) (beyond x) refl refl, λ h. sym (of_none L x h.0 (is_true (beyond x) h.1)))
  where
    by : (s t : Bool) → leb L 1 ≡ s → beyond x ≡ t → cond s (Some (floor_of x)) (cond t None (Some (lot_of L x))) ≡ None → (1 < L) × T (beyond x)
    by true t p q h = absurd (none-some (floor_of x) (sym h))
    by false true p q h = (leb-false L 1 p, yes q)
    by false false p q h = absurd (none-some (lot_of L x) (sym h))
