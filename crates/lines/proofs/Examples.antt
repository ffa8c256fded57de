-- The table of lines and inputs, proved by computing. Assumes nothing.
use mathlib.Core.Path.{refl}
use lib.Ieee.{lt, of_bits, to_bits}
use Rattle.market.specs.Faults.{drawn}
use Rattle.words.specs.Numbers.{digit_of, are_digits, value_from}
use Rattle.words.specs.Words.{split, lead}
use Rattle.numerals.specs.Numerals.{last_digits, places_by, no_spare, decimal_in, date_in, bits_in}
use Rattle.lines.specs.Lines.{line_in}
use Rattle.lines.specs.Reading.{lines_of, read_fault, rows_read}
use Rattle.lines.specs.Writing.{write_fault, text_written}
use Rattle.lines.specs.Examples.{Examples}

pub examples : Examples
unfolding lt of_bits to_bits last_digits places_by drawn digit_of are_digits value_from split lead no_spare decimal_in date_in bits_in line_in lines_of read_fault rows_read write_fault text_written
examples = (refl, refl, refl, refl, refl, refl, refl, refl, refl, refl, refl, refl, refl, refl, refl, refl, refl, refl, refl, refl, refl, refl, refl, refl, refl, refl, refl, refl, refl, refl)
