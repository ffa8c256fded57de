-- The order of finite values by their sizes as fractions of whole numbers, and `over` as the least whole number not below a fraction. Assumes nothing.
use Rattle.std.proofs.Common.{◌≡◌, ℕ, zero, suc, ◌+◌, ◌*◌, ◌/◌, ◌%◌, ◌<◌, ◌≤◌, Bool, true, false, cond, ◌&&◌, ◌||◌, T, eqb, ltb, ◌⊎◌, ℤ, sym, refl, ap, ◌∙◌, subst, inl, inr, le_trans, le_of_eq, add-zero, le_of_lt, lt_irrefl, mul-le-mul_right, mod-lt, zero-lt-suc, add-mul, lt_of_mul-lt-mul_right, eq-or-lt_of_le, mul-pos, one-mul, div-add-mod', zero-mul, mul-one, le_of_mul-le-mul_right, arith, eqb→eq, ltb→lt, lt→ltb}
use native.Mathlib.Nat.{mul-mod_left}
use lib.Dec.{eqb-suc-zero}
use lib.Ieee.{fin, up, down, le}
use lib.Ieee.Fits.{and_l, and_r, and_i, down_pos, eq→eqb}
use lib.Ieee.Order.{transfer}
use Rattle.floats.specs.Whole.{over}

-- ---- `over` is the least whole number that is not below a / b
pub over-reaches : (a b : ℕ) → 0 < b → a ≤ over a b * b
over-reaches a b B = go (a % b) (div-add-mod' a b) (mod-lt a B)
  where
    ends : (x y r z : ℕ) → x ≡ y → y + r ≡ z → r ≡ 0 → z ≤ x
    ends x y r z p q s = omega arith

    covers : (x y r z : ℕ) → x ≡ y + b → y + suc r ≡ z → suc r < b → z ≤ x
    covers x y r z p q s = omega arith

    go : (r : ℕ) → a / b * b + r ≡ a → r < b → a ≤ (a / b + cond (eqb r 0) 0 1) * b
    go zero p l = ends ((a / b + 0) * b) (a / b * b) 0 a (ap (λ (x : ℕ). x * b) (add-zero (a / b))) p refl
    go (suc r) p l =
        subst (λ (t : Bool). a ≤ (a / b + cond t 0 1) * b) (sym (eqb-suc-zero r))
        (covers ((a / b + 1) * b) (a / b * b) r a (add-mul (a / b) 1 b ∙ ap (λ (x : ℕ). a / b * b + x) (one-mul b)) p l)

pub over-least : (a b k : ℕ) → 0 < b → a ≤ k * b → over a b ≤ k
over-least a b k B h = go (a % b) (div-add-mod' a b)
  where
    at_most : (x r z w : ℕ) → x + r ≡ z → z ≤ w → x ≤ w
    at_most x r z w p q = omega arith

    less : (x r z w : ℕ) → x + suc r ≡ z → z ≤ w → x < w
    less x r z w p q = omega arith

    next : (x y : ℕ) → x < y → x + 1 ≤ y
    next x y p = omega arith

    go : (r : ℕ) → a / b * b + r ≡ a → a / b + cond (eqb r 0) 0 1 ≤ k
    go zero p = subst (λ (x : ℕ). x ≤ k) (sym (add-zero (a / b))) (le_of_mul-le-mul_right (at_most (a / b * b) 0 a (k * b) p h) B)
    go (suc r) p =
        subst (λ (t : Bool). a / b + cond t 0 1 ≤ k) (sym (eqb-suc-zero r))
        (next (a / b) k (lt_of_mul-lt-mul_right b (less (a / b * b) r a (k * b) p h)))

-- ---- the order of two finite values, by their signs and their sizes as fractions
or_split : (a b : Bool) → T (a || b) → T a ⊎ T b
or_split true b t = inl tt
or_split false b t = inr t

or_l : (a b : Bool) → T a → T (a || b)
or_l true b t = tt
or_l false b t = absurd t

or_r : (a b : Bool) → T b → T (a || b)
or_r true b t = tt
or_r false b t = t

and_tt : (b : Bool) → T b → T (b && true)
and_tt true t = tt
and_tt false t = t

test : (a b : ℕ) → a ≤ b → T (ltb a b || (eqb a b && true))
test a b h = elim (eq-or-lt_of_le h) [ inl p ↦ or_r (ltb a b) (eqb a b && true) (and_tt (eqb a b) (eq→eqb p)) | inr q ↦ or_l (ltb a b) (eqb a b && true) (lt→ltb a b q) ]

untest : (a b : ℕ) → T (ltb a b || (eqb a b && true)) → a ≤ b
untest a b t = elim (or_split (ltb a b) (eqb a b && true) t) [ inl u ↦ le_of_lt (ltb→lt a b u) | inr u ↦ le_of_eq (eqb→eq a b (and_l (eqb a b) true u)) ]

test' : (a b : ℕ) → a ≤ b → T (ltb a b || (eqb b a && true))
test' a b h = elim (eq-or-lt_of_le h) [ inl p ↦ or_r (ltb a b) (eqb b a && true) (and_tt (eqb b a) (eq→eqb (sym p))) | inr q ↦ or_l (ltb a b) (eqb b a && true) (lt→ltb a b q) ]

untest' : (a b : ℕ) → T (ltb a b || (eqb b a && true)) → a ≤ b
untest' a b t = elim (or_split (ltb a b) (eqb b a && true) t) [ inl u ↦ le_of_lt (ltb→lt a b u) | inr u ↦ le_of_eq (sym (eqb→eq b a (and_l (eqb b a) true u))) ]

-- size x ≤ size y
abbrev Cross : ℕ → ℤ → ℕ → ℤ → Type 0
Cross m e n d = m * up e * down d ≤ n * up d * down e

pub plus : (m : ℕ) (e : ℤ) (n : ℕ) (d : ℤ) → Cross m e n d → T (le (fin false m e) (fin false n d))
unfolding le
plus m e n d h = test (m * up e * down d) (n * up d * down e) h

pub of-plus : (m : ℕ) (e : ℤ) (n : ℕ) (d : ℤ) → T (le (fin false m e) (fin false n d)) → Cross m e n d
unfolding le
of-plus m e n d h = untest (m * up e * down d) (n * up d * down e) h

pub minus : (m : ℕ) (e : ℤ) (n : ℕ) (d : ℤ) → Cross n d m e → T (le (fin true m e) (fin true n d))
unfolding le
minus m e n d h = test' (n * up d * down e) (m * up e * down d) h

pub of-minus : (m : ℕ) (e : ℤ) (n : ℕ) (d : ℤ) → T (le (fin true m e) (fin true n d)) → Cross n d m e
unfolding le
of-minus m e n d h = untest' (n * up d * down e) (m * up e * down d) h

-- a value with the sign - is not above one with the sign +
pub apart : (m : ℕ) (e : ℤ) (n : ℕ) (d : ℤ) → T (le (fin true m e) (fin false n d))
unfolding le
apart m e n d = go (m * up e * down d) (n * up d * down e)
  where
    go : (a b : ℕ) → T (ltb 0 (a + b) || (eqb a b && eqb a 0))
    go zero zero = tt
    go zero (suc b) = or_l (ltb 0 (0 + suc b)) (eqb 0 (suc b) && true) (lt→ltb 0 (0 + suc b) (omega arith))
    go (suc a) b = or_l (ltb 0 (suc a + b)) (eqb (suc a) b && eqb (suc a) 0) (lt→ltb 0 (suc a + b) (omega arith))

-- and the other way round only where both are zero
pub meet : (m : ℕ) (e : ℤ) (n : ℕ) (d : ℤ) → T (le (fin false m e) (fin true n d)) → (m * up e * down d ≡ 0) × (n * up d * down e ≡ 0)
unfolding le
meet m e n d h =
    let a = m * up e * down d in
    let b = n * up d * down e in
    let z : a ≡ 0 = eqb→eq a 0 (and_r (eqb a b) (eqb a 0) h) in
    (z, sym (eqb→eq a b (and_l (eqb a b) (eqb a 0) h)) ∙ z)

pub meet-back : (m : ℕ) (e : ℤ) (n : ℕ) (d : ℤ) → m * up e * down d ≡ 0 → n * up d * down e ≡ 0 → T (le (fin false m e) (fin true n d))
unfolding le
meet-back m e n d p q =
    let a = m * up e * down d in
    let b = n * up d * down e in
    and_i (eqb a b) (eqb a 0) (eq→eqb (p ∙ sym q)) (eq→eqb p)

-- ---- the order of a value p * 2 ^ d that is the whole number n, and the fraction m * 2 ^ e
abbrev pub Is : ℕ → ℤ → ℕ → Type 0
Is p d n = p * up d * 1 ≡ n * down d

one-pos : 0 < 1
one-pos = zero-lt-suc 0

pub below : (p : ℕ) (d : ℤ) (n m : ℕ) (e : ℤ) → Is p d n → n * down e ≤ m * up e → Cross p d m e
below p d n m e v h = transfer (p * up d) (m * up e) (down d) (down e) n (m * up e) 1 (down e) one-pos (down_pos e) v refl (le_trans h (le_of_eq (sym (mul-one (m * up e)))))

pub above : (p : ℕ) (d : ℤ) (n m : ℕ) (e : ℤ) → Is p d n → m * up e ≤ n * down e → Cross m e p d
above p d n m e v h = transfer (m * up e) (p * up d) (down e) (down d) (m * up e) n (down e) 1 (down_pos e) one-pos refl v (le_trans (le_of_eq (mul-one (m * up e))) h)

pub of-below : (q : ℕ) (g : ℤ) (c m : ℕ) (e : ℤ) → Is q g c → Cross q g m e → c * down e ≤ m * up e
of-below q g c m e v h = le_trans (transfer c (m * up e) 1 (down e) (q * up g) (m * up e) (down g) (down e) (down_pos g) (down_pos e) (sym v) refl h) (le_of_eq (mul-one (m * up e)))

pub of-above : (q : ℕ) (g : ℤ) (c m : ℕ) (e : ℤ) → Is q g c → Cross m e q g → m * up e ≤ c * down e
of-above q g c m e v h = le_trans (le_of_eq (sym (mul-one (m * up e)))) (transfer (m * up e) c (down e) 1 (m * up e) (q * up g) (down e) (down g) (down_pos e) (down_pos g) refl (sym v) h)

pub both : (q : ℕ) (g : ℤ) (c p : ℕ) (d : ℤ) (n : ℕ) → Is q g c → Is p d n → c ≤ n → Cross q g p d
both q g c p d n v w h = transfer (q * up g) (p * up d) (down g) (down d) c n 1 1 one-pos one-pos v w (mul-le-mul_right 1 h)

-- a whole value is its whole part
pub itself : (q : ℕ) (g : ℤ) → T (eqb (q * up g % down g) 0) → Is q g (q * up g / down g)
itself q g t = mul-one (q * up g) ∙ sym (div-add-mod' (q * up g) (down g)) ∙ ap (λ (x : ℕ). q * up g / down g * down g + x) (eqb→eq (q * up g % down g) 0 t) ∙ add-zero (q * up g / down g * down g)

pub is_whole : (p : ℕ) (d : ℤ) (n : ℕ) → Is p d n → T (eqb (p * up d % down d) 0)
is_whole p d n v = eq→eqb (ap (λ (x : ℕ). x % down d) (sym (mul-one (p * up d)) ∙ v) ∙ mul-mod_left n (down d))

-- ---- zeros
pub first-zero : (a b : ℕ) → 0 < b → a * b ≡ 0 → a ≡ 0
first-zero zero b B h = refl
first-zero (suc a) b B h = absurd (lt_irrefl 0 (subst (λ (x : ℕ). 0 < x) h (mul-pos (zero-lt-suc a) B)))

pub zero-times : (a b : ℕ) → a ≡ 0 → a * b ≡ 0
zero-times a b h = ap (λ (x : ℕ). x * b) h ∙ zero-mul b

none_left : (n : ℕ) → n ≤ 0 → n ≡ 0
none_left n h = omega arith

-- the least whole number that is not below 0 is 0
pub least_zero : (p : ℕ) (d : ℤ) (n m : ℕ) (e : ℤ) (c : ℕ) → 0 < c → Is p d n → ((k : ℕ) → m * up e ≤ k * down e → n ≤ k) → m * up e * c ≡ 0 → p * up d ≡ 0
least_zero p d n m e c C v least z =
    let n0 : n ≡ 0 = none_left n (least 0 (le_of_eq (first-zero (m * up e) c C z ∙ sym (zero-mul (down e))))) in
    sym (mul-one (p * up d)) ∙ v ∙ zero-times n (down d) n0
