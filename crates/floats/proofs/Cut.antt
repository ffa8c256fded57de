-- For 0 < x < 2 ^ 52 the whole part is a `u64` that the format holds, and whether it is less than x says whether something was cut. Assumes nothing.
use Rattle.std.proofs.Common.{◌≡◌, ℕ, zero, suc, ◌+◌, ◌-◌, ◌*◌, ◌/◌, ◌%◌, ◌^◌, ◌<◌, ◌≤◌, min, Bool, true, false, cond, not, T, eqb, ℤ, pos, sym, ap, ◌∙◌, subst, le_trans, le_of_lt, div-lt_iff_lt-mul, lt_of_mul-lt-mul_right, div-add-mod', mul-one, mul_right_comm, le_of_mul-le-mul_right, arith, lit≤, le→leb, ltb→lt, lt→ltb, nltb→le}
use lib.Dec.{eqb-suc-zero}
use lib.Ieee.{Float, nan, inf, fin, binary64, up, down, round, lt, of_int, to_unsigned, in_float}
use lib.Ieee.Fits.{down_pos}
use lib.Ieee.Exact.{HasValue}
use lib.Ieee.Back.{round_whole}
use Rattle.floats.specs.Whole.{over, floor_of, ceil_of}
use Rattle.floats.proofs.Exact.{over-is}

-- ---- a test's answer as a fact
pub yes : {b : Bool} → b ≡ true → T b
yes h = subst T (sym h) tt

pub no : {b : Bool} → b ≡ false → T (not b)
no h = subst (λ (a : Bool). T (not a)) (sym h) tt

pub unlike : true ≡ false → ⊥
unlike h = subst T h tt

-- ---- the floats 0 and 2 ^ 52
abbrev pub nought : Float
nought = fin false 0 (pos 0)

abbrev pub bound : Float
bound = fin false 1 (pos 52)

-- ---- 0 < x < 2 ^ 52: the whole part is a `u64` that the format holds
tidy : (n d : ℕ) → n * 1 < 1 * 2 ^ 52 * d → n < 2 ^ 52 * d
tidy n d h = omega arith

low_end : (n d : ℕ) → 0 < d → 0 < 1 * 1 * d + n * 1
low_end n d h = omega arith

high_end : (n d : ℕ) → n < 2 ^ 52 * d → 0 < d → n * 1 < 1 * 2 ^ 64 * d
high_end n d h k = omega arith

pub in-range : (m : ℕ) (e : ℤ) → T (lt (fin false m e) bound) → m * up e < 2 ^ 52 * down e
unfolding lt
in-range m e b = tidy (m * up e) (down e) (ltb→lt (m * up e * 1) (1 * 2 ^ 52 * down e) b)

pub trunc-asks : (x : Float) → T (lt nought x) → T (lt x bound) → T (lt (fin true 1 (pos 0)) x) × T (lt x (fin false 1 (pos 64)))
unfolding lt
trunc-asks nan a b = absurd a
trunc-asks (inf true) a b = absurd a
trunc-asks (inf false) a b = absurd b
trunc-asks (fin true m e) a b = absurd a
trunc-asks (fin false m e) a b = (
  lt→ltb 0 (1 * 1 * down e + m * up e * 1) (low_end (m * up e) (down e) (down_pos e)),
  lt→ltb (m * up e * 1) (1 * 2 ^ 64 * down e) (high_end (m * up e) (down e) (in-range m e b) (down_pos e)),
)

uncapped : (a : ℕ) → a < 2 ^ 52 → min a (2 ^ 64 - 1) ≡ a
uncapped a h = omega arith

cut_small : (m : ℕ) (e : ℤ) → T (lt (fin false m e) bound) → m * up e / down e < 2 ^ 52
cut_small m e b = (div-lt_iff_lt-mul (down_pos e)).1 (in-range m e b)

pub cut-is : (m : ℕ) (e : ℤ) → T (lt (fin false m e) bound) → to_unsigned 64 (fin false m e) ≡ m * up e / down e
unfolding to_unsigned
cut-is m e b = uncapped (m * up e / down e) (cut_small m e b)

pub trunc-small : (x : Float) → T (lt nought x) → T (lt x bound) → to_unsigned 64 x < 2 ^ 52
trunc-small nan a b = absurd (unfold lt in a)
trunc-small (inf true) a b = absurd (unfold lt in a)
trunc-small (inf false) a b = absurd (unfold lt in b)
trunc-small (fin true m e) a b = absurd (unfold lt in a)
trunc-small (fin false m e) a b = subst (λ (n : ℕ). n < 2 ^ 52) (sym (cut-is m e b)) (cut_small m e b)

pub holds : (n : ℕ) → n ≤ 2 ^ 53 → T (in_float binary64 (pos n))
unfolding in_float
holds n h = le→leb n (2 ^ 53) h

pub trunc-floor : (x : Float) → T (lt nought x) → T (lt x bound) → of_int binary64 (pos (to_unsigned 64 x)) ≡ floor_of x
unfolding of_int floor_of
trunc-floor nan a b = absurd (unfold lt in a)
trunc-floor (inf true) a b = absurd (unfold lt in a)
trunc-floor (inf false) a b = absurd (unfold lt in b)
trunc-floor (fin true m e) a b = absurd (unfold lt in a)
trunc-floor (fin false m e) a b = ap (λ (n : ℕ). round binary64 false n 1) (cut-is m e b)

-- ---- whether the whole part n is less than x says whether something was cut
pub less-val : (t : Float) (n m : ℕ) (e : ℤ) → HasValue t false n 1 → T (lt t (fin false m e)) → n * down e < m * up e
unfolding lt
less-val nan n m e v h = absurd v
less-val (inf s) n m e v h = absurd v
less-val (fin true p d) n m e v h = absurd (unlike v.0)
less-val (fin false p d) n m e v h =
    lt_of_mul-lt-mul_right (down d)
    (subst (λ (x : ℕ). x < m * up e * down d) (ap (λ (x : ℕ). x * down e) (sym (mul-one (p * up d)) ∙ v.1) ∙ mul_right_comm n (down d) (down e))
    (ltb→lt (p * up d * down e) (m * up e * down d) h))

pub not-less-val : (t : Float) (n m : ℕ) (e : ℤ) → HasValue t false n 1 → T (not (lt t (fin false m e))) → m * up e ≤ n * down e
unfolding lt
not-less-val nan n m e v h = absurd v
not-less-val (inf s) n m e v h = absurd v
not-less-val (fin true p d) n m e v h = absurd (unlike v.0)
not-less-val (fin false p d) n m e v h =
    le_of_mul-le-mul_right
    (subst (λ (x : ℕ). m * up e * down d ≤ x) (ap (λ (x : ℕ). x * down e) (sym (mul-one (p * up d)) ∙ v.1) ∙ mul_right_comm n (down d) (down e))
    (nltb→le (p * up d * down e) (m * up e * down d) h)) (down_pos d)

pub left_over : (a b : ℕ) → a / b * b < a → over a b ≡ a / b + 1
left_over a b h = go (a % b) (div-add-mod' a b)
  where
    none : (x y : ℕ) → x + 0 ≡ y → x < y → ⊥
    none x y p q = omega arith

    go : (r : ℕ) → a / b * b + r ≡ a → a / b + cond (eqb r 0) 0 1 ≡ a / b + 1
    go zero p = absurd (none (a / b * b) a p h)
    go (suc r) p = ap (λ (t : Bool). a / b + cond t 0 1) (eqb-suc-zero r)

pub none_over : (a b : ℕ) → a ≤ a / b * b → over a b ≡ a / b
none_over a b h = over-is a b (zero_rest (a / b * b) (a % b) a (div-add-mod' a b) h)
  where
    zero_rest : (x r y : ℕ) → x + r ≡ y → y ≤ x → r ≡ 0
    zero_rest x r y p q = omega arith

-- the whole part as a float
pub part-val : (m : ℕ) (e : ℤ) → T (lt (fin false m e) bound) → HasValue (round binary64 false (m * up e / down e) 1) false (m * up e / down e) 1
part-val m e b = round_whole binary64 false (m * up e / down e) (le_trans (le_of_lt (cut_small m e b)) (lit≤ tt))

pub trunc-ceil : (x : Float) → T (lt nought x) → T (lt x bound) → lt (of_int binary64 (pos (to_unsigned 64 x))) x ≡ true → of_int binary64 (pos (to_unsigned 64 x + 1)) ≡ ceil_of x
unfolding of_int ceil_of
trunc-ceil nan a b h = absurd (unfold lt in a)
trunc-ceil (inf true) a b h = absurd (unfold lt in a)
trunc-ceil (inf false) a b h = absurd (unfold lt in b)
trunc-ceil (fin true m e) a b h = absurd (unfold lt in a)
trunc-ceil (fin false m e) a b h =
    let u = cut-is m e b in
    let n = m * up e / down e in
    let l : T (lt (round binary64 false n 1) (fin false m e)) = subst (λ (k : ℕ). T (lt (round binary64 false k 1) (fin false m e))) u (yes h) in
    ap (λ (k : ℕ). round binary64 false (k + 1) 1) u ∙ ap (λ (k : ℕ). round binary64 false k 1) (sym (left_over (m * up e) (down e) (less-val (round binary64 false n 1) n m e (part-val m e b) l)))

pub trunc-ceil-whole : (x : Float) → T (lt nought x) → T (lt x bound) → lt (of_int binary64 (pos (to_unsigned 64 x))) x ≡ false → of_int binary64 (pos (to_unsigned 64 x)) ≡ ceil_of x
unfolding of_int ceil_of
trunc-ceil-whole nan a b h = absurd (unfold lt in a)
trunc-ceil-whole (inf true) a b h = absurd (unfold lt in a)
trunc-ceil-whole (inf false) a b h = absurd (unfold lt in b)
trunc-ceil-whole (fin true m e) a b h = absurd (unfold lt in a)
trunc-ceil-whole (fin false m e) a b h =
    let u = cut-is m e b in
    let n = m * up e / down e in
    let l : T (not (lt (round binary64 false n 1) (fin false m e))) = subst (λ (k : ℕ). T (not (lt (round binary64 false k 1) (fin false m e)))) u (no h) in
    ap (λ (k : ℕ). round binary64 false k 1) u ∙ ap (λ (k : ℕ). round binary64 false k 1) (sym (none_over (m * up e) (down e) (not-less-val (round binary64 false n 1) n m e (part-val m e b) l)))
