-- Quote lines read to a lent table, and written from one: document 02, request 2. Definitions only.
use Rattle.std.specs.Prelude.{ℕ, min, List, ◌≡◌, length, replicate, Result}
use Rattle.lists.specs.Lists.{over}
use Rattle.market.specs.Faults.{ok_unless}
use Rattle.market.specs.declared.fault.Fault.{Fault}
use Rattle.market.specs.Quotes.{blank_quote}
use Rattle.market.specs.declared.quote.Quote.{Quote}
use Rattle.lines.specs.Reading.{read_fault, rows_read}
use Rattle.lines.specs.Writing.{write_fault, text_written}
use Rattle.vendor.specs.declared.on_arrays.TableRead.{TableRead}

-- how many rows a text has for a table of `room` rows, or what was drawn
abbrev pub lines_answer : ℕ → List ℕ → Result ℕ Fault
lines_answer room s = ok_unless (read_fault room s) (length (rows_read room s))

-- the text s, read to a lent table; `after` is the table at exit: the rows stand in its first places, its old entries past them. Where a number is drawn
-- there are no rows, and the table is as it was
pub record AnswersRead (s : List ℕ) (table : List Quote) (r : Result ℕ Fault) (after : List Quote) : Type 0 where
  pub answer : r ≡ lines_answer (length table) s
  pub table_is : after ≡ over (rows_read (length table) s) table

-- the text of a lent table, written to a lent buffer; `after` is the buffer at exit: the text stands in its first places, its old bytes past it. Where a
-- number is drawn there is no text, and the buffer is as it was
pub record AnswersWrite (table : List Quote) (out : List ℕ) (r : Result ℕ Fault) (after : List ℕ) : Type 0 where
  pub answer : r ≡ ok_unless (write_fault (length out) table) (length (text_written (length out) table))
  pub buffer-is : after ≡ over (text_written (length out) table) out

-- ---- for a caller whose tables are arrays of 257 rows

-- the first rows of a blank array are lent to the reader
abbrev pub read_on : List ℕ → ℕ → TableRead
read_on s room =
    let n = min room 257 in
    record { answer = lines_answer n s; rows = over (rows_read n s) (replicate 257 blank_quote) }
