-- The table of lines, proved by computing. Assumes nothing.

use mathlib.Core.Path.{refl}
use Rattle.words.specs.Numbers.{digit_of, are_digits, value_from, whole_of, symbol_of, signed_of, float_of}
use Rattle.words.specs.Words.{split, words_of, same_bytes}
use Rattle.rows.specs.Rows.{kind_of, price_of, order_of, quote_parts, quote_of, revision_of, vendor_of, weight_of, cost_named, cost_of, lot_of}
use Rattle.calls.specs.Verbs.{named_or, verb_in, verb_of}
use Rattle.calls.specs.Lists.{only_of, until_slash, has_slash, behind_slash, is_row, are_rows, list_of, order_or_blank, quote_or_blank, vendor_or_blank, weight_or_blank, cost_or_blank}
use Rattle.calls.specs.Calls.{said_if, said_alone, said_whole, said_log, said_symbol, said_amount, room_of, said_room, said_side, lot_at, said_new, said_check, said_walk, said_orders, said_correct, said_update, said_as, said}
use Rattle.calls.specs.Examples.{Examples}

pub examples : Examples
unfolding digit_of are_digits value_from whole_of symbol_of signed_of float_of split words_of same_bytes kind_of price_of order_of quote_parts quote_of revision_of vendor_of weight_of cost_named cost_of lot_of named_or verb_in verb_of only_of until_slash has_slash behind_slash is_row are_rows list_of order_or_blank quote_or_blank vendor_or_blank weight_or_blank cost_or_blank said_if said_alone said_whole said_log said_symbol said_amount room_of said_room said_side lot_at said_new said_check said_walk said_orders said_correct said_update said_as said
examples = (refl, refl, refl, refl, refl, refl, refl, refl, refl, refl, refl, refl, refl, refl, refl, refl, refl, refl, refl, refl, refl, refl, refl, refl, refl, refl, refl, refl, refl, refl, refl, refl, refl, refl)
