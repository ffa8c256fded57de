-- A value that is whole already is its own floor and ceiling, and from 2 ^ 52 on every value is whole. Assumes nothing.
use Rattle.std.proofs.Common.{◌≡◌, ℕ, zero, suc, ◌+◌, ◌*◌, ◌/◌, ◌%◌, ◌^◌, ◌<◌, ◌≤◌, Bool, true, false, cond, ◌&&◌, T, eqb, ltb, leb, ℤ, pos, negsuc, sym, refl, ap, ◌∙◌, subst, add-zero, zero-lt-suc, mul_assoc, mul-lt-mul_of_pos_right, div-add-mod', zero-mul, mul-one, div-one, mul_left_comm, arith, lit<, eqb→eq, ltb→lt, pow_pos, pow-add}
use native.Mathlib.Nat.{mod-one, pow-succ'}
use lib.Ieee.{fin, binary64, up, down, round, fits}
use lib.Ieee.Fits.{and_l, and_r, round-fits}
use lib.Ieee.Exact.{HasValue, round_exact}
use lib.Ieee.Back.{whole_unique}
use Rattle.floats.specs.Whole.{over, floor_of, ceil_of}

-- ---- what it takes to fit
odd-of : (s : Bool) (m : ℕ) (e : ℤ) → T (fits binary64 (fin s (suc m) e)) → (suc m % 2 ≡ 1) × (suc m < 2 ^ 53) × (suc m * up e < 2 ^ 1024 * down e)
unfolding fits
odd-of s m e t =
    let a : Bool = eqb (suc m % 2) 1 in
    let b : Bool = ltb (suc m) (2 ^ 53) in
    let c : Bool = leb (down e) (2 ^ 1074) in
    let d : Bool = ltb (suc m * up e) (2 ^ 1024 * down e) in (
      eqb→eq (suc m % 2) 1 (and_l a b (and_l (a && b) c (and_l (a && b && c) d t))),
      ltb→lt (suc m) (2 ^ 53) (and_r a b (and_l (a && b) c (and_l (a && b && c) d t))),
      ltb→lt (suc m * up e) (2 ^ 1024 * down e) (and_r (a && b && c) d t),
    )

flat-no : (p : ℕ) → 0 < p → 1 * (2 * p) ≡ 1 → ⊥
flat-no p h e = omega arith

zero-flat : (s : Bool) (k : ℕ) → T (fits binary64 (fin s zero (negsuc k))) → ⊥
unfolding fits
zero-flat s k t = flat-no (2 ^ k) (pow_pos k) (ap (λ (x : ℕ). 1 * x) (sym (pow-succ' 2 k)) ∙ eqb→eq (1 * 2 ^ suc k) 1 t)

pub few : (s : Bool) (m : ℕ) (e : ℤ) → T (fits binary64 (fin s m e)) → m < 2 ^ 53
few s zero e t = lit< tt
few s (suc m) e t = (odd-of s m e t).1

below_top : (s : Bool) (m k : ℕ) → T (fits binary64 (fin s m (pos k))) → m * 2 ^ k < 2 ^ 1024
below_top s zero k t = subst (λ (x : ℕ). x < 2 ^ 1024) (sym (zero-mul (2 ^ k))) (lit< tt)
below_top s (suc m) k t = subst (λ (x : ℕ). suc m * 2 ^ k < x) (mul-one (2 ^ 1024)) (odd-of s m (pos k) t).2

-- ---- a value that is whole already
scaled : (m k : ℕ) → m * 2 ^ k < 2 ^ 1024 → m * 2 ^ (k + 1074) < 2 ^ (1074 + 1024)
scaled m k h =
    subst (λ (x : ℕ). x < 2 ^ (1074 + 1024)) (mul_assoc m (2 ^ k) (2 ^ 1074) ∙ ap (λ (x : ℕ). m * x) (sym (pow-add 2 k 1074)))
    (subst (λ (x : ℕ). m * 2 ^ k * 2 ^ 1074 < x) (sym (pow-add 2 1024 1074)) (mul-lt-mul_of_pos_right h (pow_pos 1074)))

-- m * 2 ^ k is a value of the format, so the rounding leaves it
pub big-val : (s : Bool) (m k : ℕ) → T (fits binary64 (fin s m (pos k))) → HasValue (round binary64 s (m * 2 ^ k) 1) s (m * 2 ^ k) 1
big-val s m k t =
    round_exact binary64 s (m * 2 ^ k) 1 m (k + 1074) (zero-lt-suc 0) (few s m (pos k) t) (scaled m k (below_top s m k t))
    (mul_assoc m (2 ^ k) (2 ^ 1074) ∙ ap (λ (x : ℕ). m * x) (sym (pow-add 2 k 1074)) ∙ sym (mul-one (m * 2 ^ (k + 1074))))

big : (s : Bool) (m k : ℕ) → T (fits binary64 (fin s m (pos k))) → round binary64 s (m * 2 ^ k) 1 ≡ fin s m (pos k)
big s m k t = whole_unique binary64 (round binary64 s (m * 2 ^ k) 1) (fin s m (pos k)) s (m * 2 ^ k) (round-fits binary64 s (m * 2 ^ k) 1) t (big-val s m k t) (refl, refl)

even_odd : (m t : ℕ) → m % 2 ≡ 1 → m ≡ 2 * t → ⊥
even_odd m t o h = omega arith

-- an odd number is no multiple of 2 ^ (k + 1)
no_part : (s : Bool) (m k : ℕ) → T (fits binary64 (fin s m (negsuc k))) → m * 1 % 2 ^ suc k ≡ 0 → ⊥
no_part s zero k t r = zero-flat s k t
no_part s (suc m) k t r =
    let b = 2 ^ suc k in
    let q = suc m * 1 / b in
    let h : suc m ≡ q * b = sym (mul-one (suc m)) ∙ sym (div-add-mod' (suc m * 1) b) ∙ ap (λ (x : ℕ). q * b + x) r ∙ add-zero (q * b) in
    even_odd (suc m) (q * 2 ^ k) (odd-of s m (negsuc k) t).0 (h ∙ ap (λ (x : ℕ). q * x) (pow-succ' 2 k) ∙ mul_left_comm q 2 (2 ^ k))

whole_back : (s : Bool) (m : ℕ) (e : ℤ) → T (fits binary64 (fin s m e)) → m * up e % down e ≡ 0 → round binary64 s (m * up e / down e) 1 ≡ fin s m e
whole_back s m (pos k) t r = ap (λ (x : ℕ). round binary64 s x 1) (div-one (m * 2 ^ k)) ∙ big s m k t
whole_back s m (negsuc k) t r = absurd (no_part s m k t r)

pub over-is : (a b : ℕ) → a % b ≡ 0 → over a b ≡ a / b
over-is a b h = ap (λ (r : ℕ). a / b + cond (eqb r 0) 0 1) h ∙ add-zero (a / b)

pub floor-exact : (s : Bool) (m : ℕ) (e : ℤ) → T (fits binary64 (fin s m e)) → m * up e % down e ≡ 0 → floor_of (fin s m e) ≡ fin s m e
unfolding floor_of
floor-exact false m e t r = whole_back false m e t r
floor-exact true m e t r = ap (λ (n : ℕ). round binary64 true n 1) (over-is (m * up e) (down e) r) ∙ whole_back true m e t r

pub ceil-exact : (s : Bool) (m : ℕ) (e : ℤ) → T (fits binary64 (fin s m e)) → m * up e % down e ≡ 0 → ceil_of (fin s m e) ≡ fin s m e
unfolding ceil_of
ceil-exact true m e t r = whole_back true m e t r
ceil-exact false m e t r = ap (λ (n : ℕ). round binary64 false n 1) (over-is (m * up e) (down e) r) ∙ whole_back false m e t r

-- ---- from 2 ^ 52 on every value is whole
too-big : (m p : ℕ) → m < 2 ^ 53 → 0 < p → 2 ^ 52 * (2 * p) ≤ m * 1 → ⊥
too-big m p a b c = omega arith

pub large : (s : Bool) (m : ℕ) (e : ℤ) → T (fits binary64 (fin s m e)) → 2 ^ 52 * down e ≤ m * up e → m * up e % down e ≡ 0
large s m (pos k) t h = mod-one (m * 2 ^ k)
large s m (negsuc k) t h = absurd (too-big m (2 ^ k) (few s m (negsuc k) t) (pow_pos k) (subst (λ (x : ℕ). 2 ^ 52 * x ≤ m * 1) (pow-succ' 2 k) h))
