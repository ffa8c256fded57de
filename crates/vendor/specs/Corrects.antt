-- The vendor's rows, made to one table in a lent table: document 02, request 5. Definitions only.
use Rattle.std.specs.Prelude.{ℕ, List, ◌≡◌, length, Result}
use Rattle.lists.specs.Lists.{over}
use Rattle.market.specs.Faults.{ok_unless}
use Rattle.market.specs.declared.fault.Fault.{Fault}
use Rattle.market.specs.declared.quote.Quote.{Quote}
use Rattle.market.specs.declared.vendor_quote.VendorQuote.{VendorQuote}
use Rattle.corrections.specs.Corrections.{correct_fault, rows_shown}

-- how many rows are made of the vendor's for a table of `room` rows, or what was drawn
abbrev pub correct_answer : ℕ → List VendorQuote → Result ℕ Fault
correct_answer room rows = ok_unless (correct_fault room (length rows) rows) (length (rows_shown room (length rows) rows))

-- the vendor's rows, made to one table in a lent table; `after` is the table at exit: its rows stand in the first places, its old entries past them. Where a
-- number is drawn there are no rows, and the table is as it was
pub record AnswersCorrect (rows : List VendorQuote) (table : List Quote) (r : Result ℕ Fault) (after : List Quote) : Type 0 where
  pub answer : r ≡ correct_answer (length table) rows
  pub table_is : after ≡ over (rows_shown (length table) (length rows) rows) table
