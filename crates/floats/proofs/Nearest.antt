-- The rules of 01 for `floor_of` and `ceil_of`, of every `f64`. For a finite x the result is exactly the whole number that `under` or `over` gives, with x's sign,
-- and the order of the fractions carries over to the floats. Assumes nothing.
use Rattle.std.proofs.Common.{◌≡◌, ℕ, suc, ◌+◌, ◌*◌, ◌/◌, ◌%◌, ◌^◌, ◌<◌, ◌≤◌, Bool, true, false, cond, not, T, eqb, ℤ, pos, negsuc, sym, refl, ap, ◌∙◌, subst, le_trans, le_refl, le_of_lt, le-div_iff_mul-le, mul-one, div-le_self, div-mul-le_self, div-one, arith, ltb→lt}
use native.Mathlib.Nat.{mod-one, div-eq_of_lt}
use lib.Ieee.{Float, nan, inf, fin, binary64, up, down, round, lt, le, fits}
use lib.Ieee.Fits.{down_pos}
use lib.Ieee.Exact.{HasValue}
use lib.Ieee.Back.{round_whole}
use lib.Ieee.Scale.{finite}
use Rattle.floats.specs.Whole.{under, over, floor_of, ceil_of, whole, signed_zero, minus_one, Down, Up, RoundsDown, RoundsUp}
use Rattle.floats.proofs.Exact.{over-is, few, big-val, floor-exact, ceil-exact}
use Rattle.floats.proofs.Cut.{unlike}
use Rattle.floats.proofs.Ranges.{not-under}
use Rattle.floats.proofs.Fractions.{over-reaches, over-least, is_whole, plus, minus, apart, meet, meet-back, below, above, of-below, of-above, both, itself, of-plus, of-minus, zero-times, first-zero, least_zero}

-- ---- what is rounded is the whole number, exactly
part-le : (m p : ℕ) → m < 2 ^ 53 → m * 1 / p ≤ 2 ^ 53
part-le m p h = le_trans (div-le_self (m * 1) p) (subst (λ (x : ℕ). x ≤ 2 ^ 53) (sym (mul-one m)) (le_of_lt h))

pub over-le : (a b : ℕ) → over a b ≤ a / b + 1
over-le a b = go (eqb (a % b) 0)
  where
    go : (t : Bool) → a / b + cond t 0 1 ≤ a / b + 1
    go true = omega arith
    go false = le_refl (a / b + 1)

part-next : (m p : ℕ) → m < 2 ^ 53 → over (m * 1) p ≤ 2 ^ 53
part-next m p h = join (over (m * 1) p) (m * 1 / p) m (over-le (m * 1) p) (div-le_self (m * 1) p) h
  where
    join : (x y z : ℕ) → x ≤ y + 1 → y ≤ z * 1 → z < 2 ^ 53 → x ≤ 2 ^ 53
    join x y z a b c = omega arith

under-val : (s : Bool) (m : ℕ) (e : ℤ) → T (fits binary64 (fin s m e)) → HasValue (round binary64 s (under (m * up e) (down e)) 1) s (under (m * up e) (down e)) 1
under-val s m (pos k) t = subst (λ (n : ℕ). HasValue (round binary64 s n 1) s n 1) (sym (div-one (m * 2 ^ k))) (big-val s m k t)
under-val s m (negsuc k) t = round_whole binary64 s (under (m * 1) (2 ^ suc k)) (part-le m (2 ^ suc k) (few s m (negsuc k) t))

over-val : (s : Bool) (m : ℕ) (e : ℤ) → T (fits binary64 (fin s m e)) → HasValue (round binary64 s (over (m * up e) (down e)) 1) s (over (m * up e) (down e)) 1
over-val s m (pos k) t = subst (λ (n : ℕ). HasValue (round binary64 s n 1) s n 1) (sym (over-is (m * 2 ^ k) 1 (mod-one (m * 2 ^ k)) ∙ div-one (m * 2 ^ k))) (big-val s m k t)
over-val s m (negsuc k) t = round_whole binary64 s (over (m * 1) (2 ^ suc k)) (part-next m (2 ^ suc k) (few s m (negsuc k) t))

-- ---- r is the whole number n with x's sign
down-plus : (m : ℕ) (e : ℤ) (r : Float) (n : ℕ) → HasValue r false n 1 → n * down e ≤ m * up e → ((k : ℕ) → k * down e ≤ m * up e → k ≤ n) → Down (fin false m e) r
down-plus m e nan n v h most = absurd v
down-plus m e (inf s) n v h most = absurd v
down-plus m e (fin true p d) n v h most = absurd (unlike v.0)
down-plus m e (fin false p d) n v h most = record { is_whole = is_whole p d n v.1; not-above = plus p d m e (below p d n m e v.1 h); nearest = near; same_sign = refl }
  where
    near : (y : Float) → T (whole y) → T (le y (fin false m e)) → T (le y (fin false p d))
    near nan w l = absurd w
    near (inf s) w l = absurd w
    near (fin true q g) w l = apart q g p d
    near (fin false q g) w l =
        let c = q * up g / down g in
        plus q g p d (both q g c p d n (itself q g w) v.1 (most c (of-below q g c m e (itself q g w) (of-plus q g m e l))))

down-minus : (m : ℕ) (e : ℤ) (r : Float) (n : ℕ) → HasValue r true n 1 → m * up e ≤ n * down e → ((k : ℕ) → m * up e ≤ k * down e → n ≤ k) → Down (fin true m e) r
down-minus m e nan n v h least = absurd v
down-minus m e (inf s) n v h least = absurd v
down-minus m e (fin false p d) n v h least = absurd (unlike (sym v.0))
down-minus m e (fin true p d) n v h least = record { is_whole = is_whole p d n v.1; not-above = minus p d m e (above p d n m e v.1 h); nearest = near; same_sign = refl }
  where
    near : (y : Float) → T (whole y) → T (le y (fin true m e)) → T (le y (fin true p d))
    near nan w l = absurd w
    near (inf s) w l = absurd w
    near (fin false q g) w l =
        let z = meet q g m e l in
        meet-back q g p d (zero-times (q * up g) (down d) (first-zero (q * up g) (down e) (down_pos e) z.0))
        (zero-times (p * up d) (down g) (least_zero p d n m e (down g) (down_pos g) v.1 least z.1))
    near (fin true q g) w l =
        let c = q * up g / down g in
        minus q g p d (both p d n q g c v.1 (itself q g w) (least c (of-above q g c m e (itself q g w) (of-minus q g m e l))))

up-plus : (m : ℕ) (e : ℤ) (r : Float) (n : ℕ) → HasValue r false n 1 → m * up e ≤ n * down e → ((k : ℕ) → m * up e ≤ k * down e → n ≤ k) → Up (fin false m e) r
up-plus m e nan n v h least = absurd v
up-plus m e (inf s) n v h least = absurd v
up-plus m e (fin true p d) n v h least = absurd (unlike v.0)
up-plus m e (fin false p d) n v h least = record { is_whole = is_whole p d n v.1; not-below = plus m e p d (above p d n m e v.1 h); nearest = near; same_sign = refl }
  where
    near : (y : Float) → T (whole y) → T (le (fin false m e) y) → T (le (fin false p d) y)
    near nan w l = absurd w
    near (inf s) w l = absurd w
    near (fin true q g) w l =
        let z = meet m e q g l in
        meet-back p d q g (zero-times (p * up d) (down g) (least_zero p d n m e (down g) (down_pos g) v.1 least z.0))
        (zero-times (q * up g) (down d) (first-zero (q * up g) (down e) (down_pos e) z.1))
    near (fin false q g) w l =
        let c = q * up g / down g in
        plus p d q g (both p d n q g c v.1 (itself q g w) (least c (of-above q g c m e (itself q g w) (of-plus m e q g l))))

up-minus : (m : ℕ) (e : ℤ) (r : Float) (n : ℕ) → HasValue r true n 1 → n * down e ≤ m * up e → ((k : ℕ) → k * down e ≤ m * up e → k ≤ n) → Up (fin true m e) r
up-minus m e nan n v h most = absurd v
up-minus m e (inf s) n v h most = absurd v
up-minus m e (fin false p d) n v h most = absurd (unlike (sym v.0))
up-minus m e (fin true p d) n v h most = record { is_whole = is_whole p d n v.1; not-below = minus m e p d (below p d n m e v.1 h); nearest = near; same_sign = refl }
  where
    near : (y : Float) → T (whole y) → T (le (fin true m e) y) → T (le (fin true p d) y)
    near nan w l = absurd w
    near (inf s) w l = absurd w
    near (fin false q g) w l = apart p d q g
    near (fin true q g) w l =
        let c = q * up g / down g in
        minus p d q g (both q g c p d n (itself q g w) v.1 (most c (of-below q g c m e (itself q g w) (of-minus m e q g l))))

-- ---- a number
floor-nearest : (x : Float) → T (fits binary64 x) → T (finite x) → Down x (floor_of x)
unfolding floor_of
floor-nearest nan t f = absurd f
floor-nearest (inf s) t f = absurd f
floor-nearest (fin false m e) t f =
    down-plus m e (round binary64 false (under (m * up e) (down e)) 1) (under (m * up e) (down e)) (under-val false m e t) (div-mul-le_self (m * up e) (down e)) (λ k h. (le-div_iff_mul-le (down_pos e)).1 h)
floor-nearest (fin true m e) t f =
    down-minus m e (round binary64 true (over (m * up e) (down e)) 1) (over (m * up e) (down e)) (over-val true m e t) (over-reaches (m * up e) (down e) (down_pos e)) (λ k h. over-least (m * up e) (down e) k (down_pos e) h)

ceil-nearest : (x : Float) → T (fits binary64 x) → T (finite x) → Up x (ceil_of x)
unfolding ceil_of
ceil-nearest nan t f = absurd f
ceil-nearest (inf s) t f = absurd f
ceil-nearest (fin false m e) t f =
    up-plus m e (round binary64 false (over (m * up e) (down e)) 1) (over (m * up e) (down e)) (over-val false m e t) (over-reaches (m * up e) (down e) (down_pos e)) (λ k h. over-least (m * up e) (down e) k (down_pos e) h)
ceil-nearest (fin true m e) t f =
    up-minus m e (round binary64 true (under (m * up e) (down e)) 1) (under (m * up e) (down e)) (under-val true m e t) (div-mul-le_self (m * up e) (down e)) (λ k h. (le-div_iff_mul-le (down_pos e)).1 h)

-- ---- an infinity or a NaN
floor-other : (x : Float) → T (not (finite x)) → floor_of x ≡ x
unfolding floor_of
floor-other nan f = refl
floor-other (inf s) f = refl
floor-other (fin s m e) f = absurd f

ceil-other : (x : Float) → T (not (finite x)) → ceil_of x ≡ x
unfolding ceil_of
ceil-other nan f = refl
ceil-other (inf s) f = refl
ceil-other (fin s m e) f = absurd f

-- ---- a zero
zero-fits : (s : Bool) → T (fits binary64 (signed_zero s))
unfolding fits
zero-fits s = tt

-- ---- between -1 and 0 the whole part is zero
part-zero : (m : ℕ) (e : ℤ) → T (lt minus_one (fin true m e)) → under (m * up e) (down e) ≡ 0
unfolding lt
part-zero m e h = div-eq_of_lt (tidy (m * up e) (down e) (ltb→lt (m * up e * 1) (1 * 1 * down e) h))
  where
    tidy : (n d : ℕ) → n * 1 < 1 * 1 * d → n < d
    tidy n d l = omega arith

ceil-below-zero : (x : Float) → T (lt minus_one x) → T (lt x (signed_zero false)) → ceil_of x ≡ signed_zero true
unfolding ceil_of
ceil-below-zero nan a b = absurd (unfold lt in a)
ceil-below-zero (inf true) a b = absurd (unfold lt in a)
ceil-below-zero (inf false) a b = absurd (unfold lt in b)
ceil-below-zero (fin false m e) a b = absurd (not-under m e b)
ceil-below-zero (fin true m e) a b = ap (λ (n : ℕ). round binary64 true n 1) (part-zero m e a) ∙ ceil-exact true 0 (pos 0) (zero-fits true) refl

-- ---- the theorems
pub floor-rounds : (x : Float) → T (fits binary64 x) → RoundsDown x (floor_of x)
floor-rounds x t = record {
  number = floor-nearest x t;
  infinity-or-nan = floor-other x;
  signed-zero = λ s p. ap floor_of p ∙ floor-exact s 0 (pos 0) (zero-fits s) refl ∙ sym p;
}

pub ceil-rounds : (x : Float) → T (fits binary64 x) → RoundsUp x (ceil_of x)
ceil-rounds x t = record {
  number = ceil-nearest x t;
  infinity-or-nan = ceil-other x;
  signed-zero = λ s p. ap ceil_of p ∙ ceil-exact s 0 (pos 0) (zero-fits s) refl ∙ sym p;
  below-zero = ceil-below-zero x;
}
