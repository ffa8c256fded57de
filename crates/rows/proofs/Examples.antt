-- The table of words, proved by computing. Assumes nothing.
use mathlib.Core.Path.{refl}
use Rattle.words.specs.Numbers.{digit_of, are_digits, value_from, whole_of, symbol_of, signed_of, float_of}
use Rattle.words.specs.Words.{split, words_of, same_bytes}
use Rattle.rows.specs.Rows.{kind_of, price_of, order_of, quote_parts, quote_of, revision_of, vendor_of, weight_of, cost_named, cost_of, lot_of}
use Rattle.rows.specs.Examples.{Examples}

pub examples : Examples
unfolding digit_of are_digits value_from whole_of symbol_of signed_of float_of split words_of same_bytes kind_of price_of order_of quote_parts quote_of revision_of vendor_of weight_of cost_named cost_of lot_of
examples = (refl, refl, refl, refl, refl, refl, refl, refl, refl, refl, refl, refl, refl, refl, refl, refl, refl, refl, refl, refl, refl, refl)
