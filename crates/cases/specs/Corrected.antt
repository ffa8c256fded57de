-- Cases of document 02, request 5: corrected quotes. Definitions only.
use Rattle.std.specs.Prelude.{ℕ, ◌+◌, true, false, List, [], ◌∷◌, map, ℤ, pos, negsuc}
use Rattle.std.specs.Float.{nan}
use Rattle.market.specs.Faults.{drawn, number_drawn}
use Rattle.market.specs.declared.quote.Quote.{Quote}
use Rattle.market.specs.declared.vendor_quote.VendorQuote.{VendorQuote}
use Rattle.corrections.specs.Corrections.{supersedes, corrected_of, vendor_tests, correct_fault, rows_shown}
use Rattle.ledger.specs.Examples.{Example, example, num}
use Rattle.cases.specs.Made.{dated}

-- a row with this bid, an ask of 1 more, this date and revision; and the row of a table that it is
abbrev row : ℕ → ℕ → ℤ → ℕ → VendorQuote
row s bid date revision = record { symbol = s; bid = num bid; ask = num (bid + 1); date = date; revision = revision }

abbrev shown : ℕ → ℕ → ℤ → Quote
shown s bid date = dated s (num bid) (num (bid + 1)) date

-- rows that draw 1 and 2
abbrev unknown : VendorQuote
unknown = row 256 9 (pos 1) 0

abbrev unpriced : ℕ → ℤ → VendorQuote
unpriced s date = record { symbol = s; bid = nan; ask = num 10; date = date; revision = 0 }

-- the number that rows draw, or 0
abbrev draws : List VendorQuote → ℕ
draws rows = number_drawn (drawn (vendor_tests rows))

-- the least and the greatest date of 64 bits
abbrev first-date : ℤ
first-date = negsuc 9223372036854775807

abbrev last-date : ℤ
last-date = pos 9223372036854775807

abbrev pub corrected : List Example
corrected =
    -- the latest date wins, whichever row is given first, and whatever the revisions
    example 5001
    (map corrected_of ((row 7 9 (pos 5) 0 ∷ row 7 8 (pos 4) 9 ∷ []) ∷ (row 7 8 (pos 4) 9 ∷ row 7 9 (pos 5) 0 ∷ []) ∷ []))
    ((shown 7 9 (pos 5) ∷ []) ∷ (shown 7 9 (pos 5) ∷ []) ∷ []) ∷
    -- dates are signed: -1 is later than -2, 0 than -1, and the last date of 64 bits than the first
    example 5002
    (map corrected_of (
    (row 1 9 (negsuc 0) 0 ∷ row 1 8 (negsuc 1) 0 ∷ []) ∷ (row 1 9 (negsuc 0) 0 ∷ row 1 8 (pos 0) 0 ∷ []) ∷ (row 1 9 last-date 0 ∷ row 1 8 first-date 0 ∷ []) ∷ []))
    ((shown 1 9 (negsuc 0) ∷ []) ∷ (shown 1 8 (pos 0) ∷ []) ∷ (shown 1 9 last-date ∷ []) ∷ []) ∷
    -- then the highest revision: 1 and not 0, 128 and not 127, 255 and not 128, in either order
    example 5003
    (map corrected_of ((row 3 9 (pos 5) 1 ∷ row 3 8 (pos 5) 0 ∷ []) ∷ (row 3 9 (pos 5) 127 ∷ row 3 8 (pos 5) 128 ∷ []) ∷ (row 3 9 (pos 5) 255 ∷ row 3 8 (pos 5) 128 ∷ []) ∷ []))
    ((shown 3 9 (pos 5) ∷ []) ∷ (shown 3 8 (pos 5) ∷ []) ∷ (shown 3 9 (pos 5) ∷ []) ∷ []) ∷
    -- one ascending table: each symbol given is shown once, in the order of the symbols; no rows give no table's rows
    example 5004
    (map corrected_of ((row 255 9 (pos 1) 0 ∷ row 0 8 (pos 1) 0 ∷ row 7 6 (pos 1) 0 ∷ row 0 7 (pos 2) 0 ∷ []) ∷ [] ∷ []))
    ((shown 0 7 (pos 2) ∷ shown 7 6 (pos 1) ∷ shown 255 9 (pos 1) ∷ []) ∷ [] ∷ []) ∷
    -- three rows of a symbol in three orders: date 6 with revision 2
    example 5005
    (map corrected_of (
    (row 4 1 (pos 5) 9 ∷ row 4 2 (pos 6) 1 ∷ row 4 3 (pos 6) 2 ∷ []) ∷
    (row 4 3 (pos 6) 2 ∷ row 4 2 (pos 6) 1 ∷ row 4 1 (pos 5) 9 ∷ []) ∷
    (row 4 2 (pos 6) 1 ∷ row 4 3 (pos 6) 2 ∷ row 4 1 (pos 5) 9 ∷ []) ∷ []))
    ((shown 4 3 (pos 6) ∷ []) ∷ (shown 4 3 (pos 6) ∷ []) ∷ (shown 4 3 (pos 6) ∷ []) ∷ []) ∷
    -- a row supersedes one of its own symbol, with an earlier date or a lower revision of its date; no row supersedes itself
    example 5006
    (map (supersedes (row 7 9 (pos 5) 3)) (row 7 8 (pos 4) 9 ∷ row 7 8 (pos 5) 2 ∷ row 7 9 (pos 5) 3 ∷ row 7 8 (pos 5) 4 ∷ row 7 8 (pos 6) 0 ∷ row 8 8 (pos 4) 0 ∷ []))
    (true ∷ true ∷ false ∷ false ∷ false ∷ false ∷ []) ∷
    -- 1 and 2 row by row, of superseded rows too: the first row that draws one decides; no row draws 3, symbol 0 among them
    example 5007
    (map draws (
    (unknown ∷ []) ∷ (row 7 9 (pos 5) 0 ∷ unpriced 7 (pos 4) ∷ []) ∷ (unpriced 7 (pos 1) ∷ unknown ∷ []) ∷ (unknown ∷ unpriced 7 (pos 1) ∷ []) ∷ (unpriced 256 (pos 1) ∷ []) ∷
    (row 8 9 (pos 1) 0 ∷ row 7 9 (pos 1) 0 ∷ row 7 9 (pos 1) 1 ∷ row 0 9 (pos 1) 0 ∷ []) ∷ []))
    (1 ∷ 2 ∷ 2 ∷ 1 ∷ 1 ∷ 0 ∷ []) ∷
    -- 21: two rows alike in symbol, date and revision, whatever their prices, also where a third supersedes both, and wherever they stand
    example 5008
    (map draws (
    (row 7 9 (pos 5) 1 ∷ row 7 9 (pos 5) 1 ∷ []) ∷ (row 7 9 (pos 5) 1 ∷ row 7 8 (pos 5) 1 ∷ []) ∷ (row 7 9 (pos 5) 1 ∷ row 7 6 (pos 9) 0 ∷ row 7 8 (pos 5) 1 ∷ []) ∷
    (row 7 9 (negsuc 4) 1 ∷ row 8 9 (pos 1) 0 ∷ row 9 9 (pos 1) 0 ∷ row 7 9 (negsuc 4) 1 ∷ []) ∷ []))
    (21 ∷ 21 ∷ 21 ∷ 21 ∷ []) ∷
    -- no 21 where one of the three differs, dates of another sign among them
    example 5009
    (map draws ((row 7 9 (pos 5) 1 ∷ row 8 9 (pos 5) 1 ∷ row 7 9 (pos 6) 1 ∷ row 7 9 (pos 5) 2 ∷ []) ∷ (row 7 9 (pos 1) 0 ∷ row 7 9 (negsuc 1) 0 ∷ row 7 9 (negsuc 0) 0 ∷ []) ∷ []))
    (0 ∷ 0 ∷ []) ∷
    -- 21 comes after 1 and 2 over all rows
    example 5010
    (map draws ((row 7 9 (pos 5) 1 ∷ row 7 6 (pos 9) 0 ∷ row 7 9 (pos 5) 1 ∷ unknown ∷ []) ∷ (row 7 9 (pos 5) 1 ∷ row 7 9 (pos 5) 1 ∷ unpriced 7 (pos 5) ∷ []) ∷ []))
    (1 ∷ 2 ∷ []) ∷
    -- 15 for a lent table of fewer than 256 rows, then 22 for more than 1,024 rows, then 1: 255 and 256 places, 1,024 and 1,025 rows
    example 5011
    (map number_drawn (correct_fault 255 1025 (unknown ∷ []) ∷ correct_fault 255 0 [] ∷ correct_fault 256 1025 (unknown ∷ []) ∷ correct_fault 256 1024 (unknown ∷ []) ∷ correct_fault 256 1024 [] ∷ []))
    (15 ∷ 15 ∷ 22 ∷ 1 ∷ 0 ∷ []) ∷
    -- where a number is drawn no row is shown
    example 5012
    (rows_shown 256 2 (row 7 9 (pos 5) 1 ∷ row 6 8 (pos 4) 1 ∷ []) ∷ rows_shown 255 1 (row 7 9 (pos 5) 1 ∷ []) ∷ rows_shown 256 2 (row 7 9 (pos 5) 1 ∷ row 7 8 (pos 5) 1 ∷ []) ∷ [])
    ((shown 6 8 (pos 4) ∷ shown 7 9 (pos 5) ∷ []) ∷ [] ∷ [] ∷ []) ∷ []
