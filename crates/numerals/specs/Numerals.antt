-- Numbers as quote lines write them: document 02, request 2. What is written, and what is read. Definitions only.
use Rattle.std.specs.Prelude.{ℕ, zero, suc, ◌+◌, ◌/◌, ◌%◌, ◌^◌, min, Bool, true, false, not, ◌&&◌, cond, List, [], ◌∷◌, ◌++◌, ◌≡◌, ltb, leb, eqb, ℤ, pos, negsuc, neg_ℤ, length, take}
use Rattle.std.specs.Prelude.{Option, None, Some}
use Rattle.words.specs.Numbers.{are_digits, value_from, some_if, positive_of}
use Rattle.numerals.specs.declared.spelled.Spelled.{Spelled}

-- ---- what is written

-- the byte of a digit: `0` to `9`, then `a` to `f`
abbrev pub glyph : ℕ → ℕ
glyph d = cond (ltb d 10) (48 + d) (87 + d)

-- the last k digits of n in a base, the most significant first
unfoldable pub last_digits : ℕ → ℕ → ℕ → List ℕ
last_digits base zero n = []
last_digits base (suc k) n = last_digits base k (n / base) ++ (glyph (n % base) ∷ [])

-- how many decimal digits n has without spare zeros: one, and one more for each time that it can be divided by 10; k bounds how often that is tried
unfoldable pub places_by : ℕ → ℕ → ℕ
places_by zero n = 1
places_by (suc k) n = cond (ltb n 10) 1 (suc (places_by k (n / 10)))

abbrev pub places : ℕ → ℕ
places n = places_by n n

-- decimal without spare zeros
abbrev pub digits : ℕ → List ℕ
digits n = last_digits 10 (places n) n

-- a date: decimal, with a minus where it is negative
abbrev pub date_text : ℤ → List ℕ
date_text (pos n) = digits n
date_text (negsuc n) = 45 ∷ digits (suc n)

-- the 16 lower-case hexadecimal digits of bits
abbrev pub hex16 : ℕ → List ℕ
hex16 n = last_digits 16 16 n

-- ---- what is read

-- has it no spare zero? `0` alone has none, nor has a text whose first digit is another
unfoldable pub no_spare : List ℕ → Bool
no_spare [] = false
no_spare (b ∷ []) = true
no_spare (b ∷ c ∷ s) = not (eqb b 48)

-- a decimal number without spare zeros, of any length
unfoldable pub decimal_in : List ℕ → Option ℕ
decimal_in s = some_if (no_spare s && are_digits 10 s) (value_from 10 0 s)

-- a number behind a minus: never zero, and not below what 64 bits hold
abbrev pub negative_of : Option ℕ → Option ℤ
negative_of None = None
negative_of (Some n) = some_if (ltb 0 n && leb n (2 ^ 63)) (neg_ℤ (pos n))

-- a date that 64 bits hold
unfoldable pub date_in : List ℕ → Option ℤ
date_in [] = None
date_in (b ∷ s) = cond (eqb b 45) (negative_of (decimal_in s)) (positive_of (decimal_in (b ∷ s)))

-- 16 lower-case hexadecimal digits, as bits
unfoldable pub bits_in : List ℕ → Option ℕ
bits_in s = some_if (eqb (length s) 16 && are_digits 16 s) (value_from 16 0 s)

-- ---- what the program's answers say

-- a number that stops growing at 2 ^ 63 + 1: it tells apart what 64 bits hold with a sign, and what they do not
abbrev pub capped : ℕ → ℕ
capped n = min n (2 ^ 63 + 1)

abbrev pub capped_in : Option ℕ → Option ℕ
capped_in None = None
capped_in (Some n) = Some (capped n)

-- the first bytes of an array spell a text
pub record Spells (text : List ℕ) (r : Spelled) : Type 0 where
  pub count : r.count ≡ length text
  pub bytes : take r.count r.bytes ≡ text
