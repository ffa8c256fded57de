-- The text of a table, written to a buffer: document 02, request 2. Definitions only.
use Rattle.std.specs.Prelude.{ℕ, ◌+◌, List, [], ◌∷◌, ◌++◌, ◌≡◌, ltb, length, Option, Result}
use Rattle.lists.specs.Lists.{span, over, stored, gather, given}
use Rattle.market.specs.Faults.{Test, ◌draws◌, drawn, unless_drawn, first_drawn, ok_unless}
use Rattle.market.specs.declared.fault.Fault.{Fault}
use Rattle.market.specs.declared.fault.Fault.TheVariants.{ListTooShort}
use Rattle.market.specs.Quotes.{table_tests, row_at}
use Rattle.market.specs.declared.quote.Quote.{Quote}
use Rattle.market.specs.declared.table.Table.{Table}
use Rattle.lines.specs.Lines.{line_text, line_for, newline, text_of}

-- 15 a buffer of fewer than 15,104 bytes; then the rows in order
abbrev pub write_tests : ℕ → List Quote → List Test
write_tests room t = (ltb room 15104 draws ListTooShort) ∷ table_tests 0 t

-- what writing draws
unfoldable pub write_fault : ℕ → List Quote → Option Fault
write_fault room t = drawn (write_tests room t)

-- the text that is written: none where a number is drawn
unfoldable pub text_written : ℕ → List Quote → List ℕ
text_written room t = unless_drawn (write_fault room t) (text_of t) []

-- ---- the same of a table by symbol

-- the line of a symbol's row, under its symbol
abbrev pub line_at : Table → ℕ → List ℕ
line_at t s = given (row_at t s) [] (λ q. line_text (line_for s q) ++ newline)

-- the lines of the symbols that have a row, ascending
unfoldable pub table_text : Table → List ℕ
table_text t = gather (line_at t) (span 0 256)

-- 15, then what the table's rows drew
abbrev pub table_fault : ℕ → Table → Option Fault
table_fault room t = first_drawn (drawn ((ltb room 15104 draws ListTooShort) ∷ [])) t.fault

-- the text that is written of it
abbrev pub table_written : ℕ → Table → List ℕ
table_written room t = unless_drawn (table_fault room t) (table_text t) []

-- how many bytes are answered, and what the buffer holds: the text in its first places, its old bytes past it
pub record WritesTable (t : Table) (out : List ℕ) (r : Result ℕ Fault) (after : List ℕ) : Type 0 where
  pub answer : r ≡ ok_unless (table_fault (length out) t) (length (table_written (length out) t))
  pub buffer : after ≡ over (table_written (length out) t) out

-- bytes put behind the first `at`
pub record Puts (text : List ℕ) (at : ℕ) (out : List ℕ) (r : ℕ) (after : List ℕ) : Type 0 where
  pub end : r ≡ at + length text
  pub buffer : after ≡ stored out at text
