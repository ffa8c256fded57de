-- The first rows of an array of 1,100 of the vendor's, corrected to the first places of a blank array of 1,024: document 02, request 5. Definitions only.
use Rattle.std.specs.Prelude.{ℕ, min, List, length, take, Result}
use Rattle.lists.specs.Lists.{over}
use Rattle.market.specs.declared.fault.Fault.{Fault}
use Rattle.market.specs.declared.quote.Quote.{Quote}
use Rattle.market.specs.declared.vendor_quote.VendorQuote.{VendorQuote}
use Rattle.corrections.specs.Corrections.{rows_shown}
use Rattle.vendor.specs.Corrects.{correct_answer}
use Rattle.arrays.specs.Reads.{blank_quotes}
use Rattle.arrays.specs.declared.Lent.{Lent}

-- n rows are given, and `room` places are lent: as many of these as the arrays have
abbrev pub correct_on : List VendorQuote → ℕ → ℕ → Lent (Result ℕ Fault) (List Quote)
correct_on rows n room =
    let given = take (min n 1100) rows in
    let places = min room 1024 in
    record { answer = correct_answer places given; list = over (rows_shown places (length given) given) blank_quotes }
