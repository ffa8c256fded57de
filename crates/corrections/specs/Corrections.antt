-- Corrected quotes: document 02, request 5, over document 01's rows of quotes. Definitions only.
use Rattle.std.specs.Prelude.{ℕ, Bool, false, ◌&&◌, ◌||◌, cond, ltb, eqb, ℤ, pos, negsuc}
use mathlib.Core.List.{List, [], ◌∷◌, ◌++◌, foldl}
use Rattle.std.specs.Prelude.{Option, None, Some, Result}
use Rattle.std.specs.Int.Signed.{lt_z}
use Rattle.std.specs.List.{list_any}
use Rattle.lists.specs.Lists.{span, gather, given}
use Rattle.market.specs.Faults.{Test, ◌draws◌, drawn, unless_drawn, ok_unless}
use Rattle.market.specs.declared.fault.Fault.{Fault}
use Rattle.market.specs.declared.fault.Fault.TheVariants.{ListTooShort, AlikeRows, TooManyRows}
use Rattle.market.specs.Quotes.{listing}
use Rattle.market.specs.VendorQuotes.{quote_of, vendor_row_tests}
use Rattle.market.specs.declared.quote.Quote.{Quote}
use Rattle.market.specs.declared.table.QuoteRows.{QuoteRows}
use Rattle.market.specs.declared.vendor_quote.VendorQuote.{VendorQuote}

-- ---- which row wins

-- the same date, as signed numbers
abbrev pub same_date : ℤ → ℤ → Bool
same_date (pos a) (pos b) = eqb a b
same_date (pos a) (negsuc b) = false
same_date (negsuc a) (pos b) = false
same_date (negsuc a) (negsuc b) = eqb a b

-- the latest date wins, then the highest revision: a has a later date than b, or the same date and a higher revision
unfoldable pub newer : VendorQuote → VendorQuote → Bool
newer a b = lt_z b.date a.date || same_date a.date b.date && ltb b.revision a.revision

-- a is of b's symbol, and newer
abbrev pub supersedes : VendorQuote → VendorQuote → Bool
supersedes a b = eqb a.symbol b.symbol && newer a b

-- of two rows of a symbol the later given stands where it is newer
abbrev pub newer_of : Option VendorQuote → VendorQuote → VendorQuote
newer_of None r = r
newer_of (Some a) r = cond (newer r a) r a

-- a row of the symbol s is held against the one that stands; rows of other symbols are passed over
abbrev pub winner_step : ℕ → Option VendorQuote → VendorQuote → Option VendorQuote
winner_step s o r = cond (eqb r.symbol s) (Some (newer_of o r)) o

-- the row that wins among those given of a symbol, gone through in order
abbrev pub winner : List VendorQuote → ℕ → Option VendorQuote
winner rows s = foldl (winner_step s) None rows

-- one table: for each symbol from 0 to 255 the row that wins, if one is given
unfoldable pub corrected_of : List VendorQuote → List Quote
corrected_of rows = gather (λ s. given (winner rows s) [] (λ r. quote_of r ∷ [])) (span 0 256)

-- ---- the numbers

-- two rows alike in symbol, date and revision
unfoldable pub alike : VendorQuote → VendorQuote → Bool
alike a b = eqb a.symbol b.symbol && same_date a.date b.date && eqb a.revision b.revision

-- a row like r among these
abbrev pub alike_among : VendorQuote → List VendorQuote → Bool
alike_among r rows = list_any (alike r) rows

-- some two rows alike, wherever they stand
abbrev pub some_alike : List VendorQuote → Bool
some_alike [] = false
some_alike (r ∷ rows) = alike_among r rows || some_alike rows

-- 1 and 2 row by row, then 21 two rows alike
abbrev pub vendor_tests : List VendorQuote → List Test
vendor_tests rows = gather vendor_row_tests rows ++ ((some_alike rows draws AlikeRows) ∷ [])

-- 15 a lent table of fewer than 256 rows; 22 more than 1,024 rows, of which n are given; then those of the rows
abbrev pub correct_tests : ℕ → ℕ → List VendorQuote → List Test
correct_tests room n rows = (ltb room 256 draws ListTooShort) ∷ (ltb 1024 n draws TooManyRows) ∷ vendor_tests rows

-- what the rows draw
unfoldable pub correct_fault : ℕ → ℕ → List VendorQuote → Option Fault
correct_fault room n rows = drawn (correct_tests room n rows)

-- the rows of the table: none where a number is drawn
unfoldable pub rows_shown : ℕ → ℕ → List VendorQuote → List Quote
rows_shown room n rows = unless_drawn (correct_fault room n rows) (corrected_of rows) []

-- the rows of the table and how many they are, or what was drawn
unfoldable pub corrected_for : ℕ → ℕ → List VendorQuote → Result QuoteRows Fault
corrected_for room n rows = ok_unless (correct_fault room n rows) (listing (rows_shown room n rows))
