-- The fields of a line: where they start and end, and the row that they say. Assumes nothing.
use Prim.Native.Nat.{ℕ, suc, ◌+◌, ◌-◌, ◌≤◌, min}
use mathlib.Core.Bool.{true}
use mathlib.Core.Path.{◌≡◌, refl, ap, ◌∙◌}
use mathlib.Core.List.{List}
use Rattle.std.specs.declared.option.Option.{Option}
use Rattle.std.specs.declared.option.Option.TheVariants.{None, Some}
use native.Mathlib.Omega.{arith}
use lib.IntN.{ℤ}
use lib.Ieee.{Float, binary64, of_bits}
use lib.ListN.{length, take, drop, length-drop}
use lib.Seq.{take_all}
use Rattle.lists.specs.Lists.{given}
use Rattle.words.specs.Numbers.{float_of}
use Rattle.words.specs.Words.{is_byte, lead, place}
use Rattle.words.proofs.Places.{from-least, lead-within}
use Rattle.numerals.specs.Numerals.{decimal_in, date_in, bits_in, capped, capped_in as capped_number}
use Rattle.numerals.proofs.Hexes.{float-bits}
use Rattle.lines.specs.Lines.{before, behind, line_with, line_in}
use Rattle.lines.specs.Reading.{capped_row, quote_with}

-- the first field ends before the comma, and the next starts behind it
module _ (s : List ℕ) (end : ℕ) (e : end ≡ place (is_byte 44 true) s 0) where
  at-comma : end ≡ lead (is_byte 44 true) s
  at-comma = omega arith

  pub end-within : end ≤ length s
  end-within = omega (arith, lead-within (is_byte 44 true) s)

  pub first_field : take end s ≡ before s
  first_field = ap (λ (k : ℕ). take k s) at-comma

  pub other-fields : (start : ℕ) → start ≡ min (end + 1) (length s) → take (length s - start) (drop start s) ≡ behind s
  other-fields start f =
      let q : length (drop start s) ≤ length s - start = simp length-drop (omega arith) in
      take_all (length s - start) (drop start s) q
      ∙ ap (λ (k : ℕ). drop k s) f
      ∙ from-least s (end + 1)
      ∙ let g : end + 1 ≡ suc (lead (is_byte 44 true) s) = omega arith in
      ap (λ (k : ℕ). drop k s) g

-- a symbol that stops growing stops at 256
cap-again : (n : ℕ) → min (capped n) 256 ≡ min n 256
cap-again n = omega arith

by_bits : (n : ℕ) (d : ℤ) (b a : Option ℕ) →
    quote_with (Some (capped n)) (Some d) (given b None (λ m. Some (of_bits binary64 m))) (given a None (λ m. Some (of_bits binary64 m)))
    ≡ capped_row (line_with (Some n) (Some d) b a)
by_bits n d None a = refl
by_bits n d (Some b) None = refl
by_bits n d (Some b) (Some a) = rw cap-again

by-fields : (n : Option ℕ) (d : Option ℤ) (b a : Option ℕ) →
    quote_with (capped_number n) d (given b None (λ m. Some (of_bits binary64 m))) (given a None (λ m. Some (of_bits binary64 m)))
    ≡ capped_row (line_with n d b a)
by-fields None d b a = refl
by-fields (Some n) None b a = refl
by-fields (Some n) (Some d) b a = by_bits n d b a

-- the row of the fields is that of the line
quote-line : (n : Option ℕ) (d : Option ℤ) (b a : List ℕ) → quote_with (capped_number n) d (float_of b) (float_of a) ≡ capped_row (line_with n d (bits_in b) (bits_in a))
quote-line n d b a = rw (float-bits b, float-bits a) (by-fields n d (bits_in b) (bits_in a))

-- the row of a line, by its fields x, y, b and a, and what stands behind the first two
pub line-row : (s : List ℕ) {x r y t b a : List ℕ} → x ≡ before s → r ≡ behind s → y ≡ before r → t ≡ behind r → b ≡ before t → a ≡ behind t → quote_with (capped_number (decimal_in x)) (date_in y) (float_of b) (float_of a) ≡ capped_row (line_in s)
unfolding line_in
line-row s {x = x} {r = r} {y = y} {t = t} {b = b} {a = a} e f g h i j =
    rw (i, j, h, g, f, e) (quote-line (decimal_in (before s)) (date_in (before (behind s))) (before (behind (behind s))) (behind (behind (behind s))))

-- a field that says nothing
pub no-symbol : (n : Option ℕ) (d : Option ℤ) (b a : Option Float) → None ≡ n → None ≡ quote_with n d b a
no-symbol n d b a e = ap (λ n. quote_with n d b a) e

pub no_date : (n : Option ℕ) (d : Option ℤ) (b a : Option Float) → None ≡ d → None ≡ quote_with n d b a
no_date None d b a e = refl
no_date (Some n) d b a e = ap (λ d. quote_with (Some n) d b a) e

pub no_bid : (n : Option ℕ) (d : Option ℤ) (b a : Option Float) → None ≡ b → None ≡ quote_with n d b a
no_bid None d b a e = refl
no_bid (Some n) None b a e = refl
no_bid (Some n) (Some d) b a e = ap (λ b. quote_with (Some n) (Some d) b a) e

pub no_ask : (n : Option ℕ) (d : Option ℤ) (b a : Option Float) → None ≡ a → None ≡ quote_with n d b a
no_ask None d b a e = refl
no_ask (Some n) None b a e = refl
no_ask (Some n) (Some d) None a e = refl
no_ask (Some n) (Some d) (Some b) a e = ap (quote_with (Some n) (Some d) (Some b)) e

-- the row of four fields that each say something
pub is-row : {n : Option ℕ} {d : Option ℤ} {b a : Option Float} {m : ℕ} {z : ℤ} {x y : Float} → Some m ≡ n → Some z ≡ d → Some x ≡ b → Some y ≡ a → quote_with (Some m) (Some z) (Some x) (Some y) ≡ quote_with n d b a
is-row e f g h = rw (← e, ← f, ← g, ← h)
