-- The vendor's rows: a quote with a revision of one byte. Document 02, request 5. Definitions only.
use Rattle.std.specs.Prelude.{List, pos}
use Rattle.market.specs.Faults.{Test}
use Rattle.market.specs.Orders.{zero64}
use Rattle.market.specs.Quotes.{row_tests}
use Rattle.market.specs.declared.quote.Quote.{Quote}
use Rattle.market.specs.declared.vendor_quote.VendorQuote.{VendorQuote}

abbrev pub blank_vendor : VendorQuote
blank_vendor = record { symbol = 0; bid = zero64; ask = zero64; date = pos 0; revision = 0 }

-- tables carry no revision
abbrev pub quote_of : VendorQuote → Quote
quote_of r = record { symbol = r.symbol; bid = r.bid; ask = r.ask; date = r.date }

-- per row 1 and 2, as of any row of quotes; the rows may stand in any order, and no symbol is below 0, so 3 is not drawn
abbrev pub vendor_row_tests : VendorQuote → List Test
vendor_row_tests r = row_tests 0 (quote_of r)
