-- Digits in a base, written and read back. Assumes nothing.
use Prim.Native.Nat.{ℕ, zero, suc, ◌+◌, ◌-◌, ◌*◌, ◌/◌, ◌%◌, ◌^◌, ◌≤◌, ◌<◌}
use native.Mathlib.Nat.{pow-zero, pow-suc, mod-lt, div-add-mod', div-lt_iff_lt-mul, mul-add-div_right, div-eq_of_lt, mul-add-mod_self_right, mod-eq_of_lt, mul-le-mul_right}
use native.Mathlib.Omega.{arith}
use mathlib.Core.Path.{◌≡◌, refl, sym, ap, ◌∙◌}
use mathlib.Core.Bool.{Bool, true, false, ◌&&◌, cond}
use mathlib.Core.List.{List, [], ◌∷◌, ◌++◌, append-nil, append_assoc}
use borrow.Author.Tests.{ltb-true, ltb-false, lt-ltb, le-ltb, le-leb, lt-leb, leb-true}
use lib.Dec.{ltb, leb}
use lib.ListN.{length, length-append}
use Rattle.words.specs.Numbers.{digit_of, are_digits, value_from}
use Rattle.numerals.specs.Numerals.{glyph, last_digits}
use Rattle.numerals.proofs.Tests.{and-true, both_true}

-- ---- a digit's byte

glyph-by : (d : ℕ) (t : Bool) → d < 16 → ltb d 10 ≡ t → digit_of (cond t (48 + d) (87 + d)) ≡ d
unfolding digit_of
glyph-by d true h e = let l : d < 10 = ltb-true d 10 e in simp (le-leb 48 (48 + d) (omega arith), le-leb (48 + d) 57 (omega arith)) (omega arith)
glyph-by d false h e =
    let l : 10 ≤ d = ltb-false d 10 e in
    simp (le-leb 48 (87 + d) (omega arith), lt-leb (87 + d) 57 (omega arith), le-leb 97 (87 + d) (omega arith), le-leb (87 + d) 102 (omega arith)) (omega arith)

pub glyph-digit : (d : ℕ) → d < 16 → digit_of (glyph d) ≡ d
glyph-digit d h = glyph-by d (ltb d 10) h refl

digit-by : (b : ℕ) (t u : Bool) → (t ≡ true → (48 ≤ b) × (b ≤ 57)) → (u ≡ true → (97 ≤ b) × (b ≤ 102)) → cond t (b - 48) (cond u (b - 87) 16) < 16 → glyph (cond t (b - 48) (cond u (b - 87) 16)) ≡ b
digit-by b true u f g h = let l = f refl in rw (lt-ltb (b - 48) 10 (omega arith)) (omega arith)
digit-by b false true f g h = let l = g refl in rw (le-ltb (b - 87) 10 (omega arith)) (omega arith)
digit-by b false false f g h = absurd (omega arith)

pub digit_glyph : (b : ℕ) → digit_of b < 16 → glyph (digit_of b) ≡ b
unfolding digit_of
digit_glyph b h = digit-by b (leb 48 b && leb b 57) (leb 97 b && leb b 102) (within 48 57) (within 97 102) h
  where
    within : (m n : ℕ) → (leb m b && leb b n) ≡ true → (m ≤ b) × (b ≤ n)
    within m n e = let x = and-true (leb m b) (leb b n) e in (leb-true m b x.0, leb-true b n x.1)

-- ---- digits put together

-- the first of the digits, and the rest
pub digits-parts : (b x : ℕ) (s : List ℕ) → are_digits b (x ∷ s) ≡ true → (digit_of x < b) × (are_digits b s ≡ true)
unfolding are_digits
digits-parts b x s e = let p = and-true (ltb (digit_of x) b) (are_digits b s) e in (ltb-true (digit_of x) b p.0, p.1)

digits-snoc : (b x : ℕ) (s : List ℕ) → are_digits b s ≡ true → digit_of x < b → are_digits b (s ++ (x ∷ [])) ≡ true
unfolding are_digits
digits-snoc b x [] e h = rw (lt-ltb (digit_of x) b h)
digits-snoc b x (y ∷ s) e h =
    let p = and-true (ltb (digit_of y) b) (are_digits b s) e in
    both_true p.0 (digits-snoc b x s p.1 h)

value-snoc : (b v x : ℕ) (s : List ℕ) → value_from b v (s ++ (x ∷ [])) ≡ value_from b v s * b + digit_of x
unfolding value_from
value-snoc b v x [] = refl
value-snoc b v x (y ∷ s) = value-snoc b (v * b + digit_of y) x s

-- ---- the last digits of a number

pub length_last : (b k n : ℕ) → length (last_digits b k n) ≡ k
unfolding last_digits
length_last b zero n = refl
length_last b (suc k) n = simp (length-append, length_last b k (n / b)) (omega arith)

module _ (b : ℕ) (h : 0 < b) (l : b ≤ 16) where
  last-digit : (n : ℕ) → digit_of (glyph (n % b)) ≡ n % b
  last-digit n = let m = mod-lt n h in glyph-digit (n % b) (omega arith)

  pub last-are : (k n : ℕ) → are_digits b (last_digits b k n) ≡ true
  unfolding last_digits are_digits
  last-are zero n = refl
  last-are (suc k) n = digits-snoc b (glyph (n % b)) (last_digits b k (n / b)) (last-are k (n / b)) (omega (arith, last-digit n, mod-lt n h))

  -- they are read as the number, where there are enough of them
  pub value-last : (k n : ℕ) → n < b ^ k → value_from b 0 (last_digits b k n) ≡ n
  unfolding last_digits value_from
  value-last zero n e = omega (arith, pow-zero b)
  value-last (suc k) n e =
      value-snoc b 0 _ (last_digits b k (n / b))
      ∙ ap (λ (v : ℕ). v * b + digit_of (glyph (n % b))) (value-last k (n / b) ((div-lt_iff_lt-mul h).1 (rw pow-suc at e)))
      ∙ ap (λ (d : ℕ). n / b * b + d) (last-digit n)
      ∙ div-add-mod' n b

-- ---- digits that are read

module _ (b : ℕ) (l : b ≤ 16) where
  -- one more digit makes one more last digit
  last_more : (j v x : ℕ) → digit_of x < b → last_digits b (suc j) (v * b + digit_of x) ≡ last_digits b j v ++ (x ∷ [])
  unfolding last_digits
  last_more j v x h =
      let d = digit_of x in
      let z : 0 < b = omega arith in
      let q : (v * b + d) / b ≡ v = mul-add-div_right z v d ∙ omega (arith, div-eq_of_lt h) in
      let r : (v * b + d) % b ≡ d = mul-add-mod_self_right v b d ∙ mod-eq_of_lt h in
      rw (q, r, digit_glyph x (omega arith))

  last-from : (s : List ℕ) (j v : ℕ) → are_digits b s ≡ true → last_digits b (j + length s) (value_from b v s) ≡ last_digits b j v ++ s
  unfolding value_from
  last-from [] j v e = let z : j + 0 ≡ j = omega arith in rw (z, append-nil)
  last-from (x ∷ s) j v e =
      let p = digits-parts b x s e in
      let n : j + suc (length s) ≡ suc j + length s = omega arith in
      ap (λ (m : ℕ). last_digits b m (value_from b (v * b + digit_of x) s)) n
      ∙ last-from s (suc j) (v * b + digit_of x) p.1
      ∙ ap (λ (t : List ℕ). t ++ s) (last_more j v x p.0)
      ∙ append_assoc (last_digits b j v) (x ∷ []) s

  -- a text of digits is the last digits of its value
  pub last-value : (s : List ℕ) → are_digits b s ≡ true → last_digits b (length s) (value_from b 0 s) ≡ s
  unfolding last_digits
  last-value s e =
      let z : 0 + length s ≡ length s = omega arith in
      ap (λ (m : ℕ). last_digits b m (value_from b 0 s)) (sym z) ∙ last-from s 0 0 e

-- one more digit, of a number below a power
pub digit-below : (b j v d : ℕ) → v < b ^ j → d < b → v * b + d < b ^ suc j
digit-below b j v d h l =
    let m : suc v * b ≤ b ^ j * b = mul-le-mul_right b h in
    omega (arith, pow-suc b j, m)

pub value-below : (b : ℕ) (s : List ℕ) (j v : ℕ) → v < b ^ j → are_digits b s ≡ true → value_from b v s < b ^ (j + length s)
unfolding value_from
value-below b [] j v h e = let z : j + 0 ≡ j = omega arith in rw z h
value-below b (x ∷ s) j v h e =
    let p = digits-parts b x s e in
    let n : j + suc (length s) ≡ suc j + length s = omega arith in
    rw n (value-below b s (suc j) (v * b + digit_of x) (digit-below b j v (digit_of x) h p.0) p.1)
