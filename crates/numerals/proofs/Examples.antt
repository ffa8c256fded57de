-- The table of numbers' texts, proved by computing what is read; what is written is what is read back. Assumes nothing.
use mathlib.Core.Path.{refl, sym}
use Rattle.words.specs.Numbers.{digit_of, are_digits, value_from}
use Rattle.numerals.specs.Numerals.{last_digits, no_spare, decimal_in, date_in, bits_in}
use Rattle.numerals.specs.Examples.{Examples}
use Rattle.numerals.proofs.Decimals.{decimal-text}
use Rattle.numerals.proofs.Dates.{date-text}

pub examples : Examples
unfolding digit_of are_digits value_from last_digits no_spare decimal_in date_in bits_in
examples = (
  sym (decimal-text _ 0 refl),
  sym (decimal-text _ 10 refl),
  sym (decimal-text _ 4294967303 refl),
  sym (date-text _ _ refl),
  sym (date-text _ _ refl),
  refl,
  refl,
  refl,
  refl,
  refl,
  refl,
  refl,
  refl,
  refl,
  refl,
  refl,
  refl,
  refl,
  refl,
  refl,
  refl,
  refl,
  refl,
  refl,
  refl,
  refl,
  refl,
  refl,
  refl,
  refl,
  refl,
  refl,
  refl,
)
