-- Quotes and tables: document 01, section 2, and the supplier's 1, 2 and 3. Definitions only.
use Rattle.std.specs.Prelude.{ℕ, Bool, ◌&&◌, cond, eqb, pos, Float, length, get_or, set, replicate}
use mathlib.Core.List.{List, [], ◌∷◌, foldl}
use Rattle.std.specs.Prelude.{Option, None, Some}
use Rattle.std.specs.Float.{nan}
use Rattle.std.specs.Float.Ieee.{lt}
use Rattle.std.specs.Float.Ieee.Scale.{finite}
use Rattle.lists.specs.Lists.{over}
use Rattle.market.specs.Faults.{Test, drawn}
use Rattle.market.specs.declared.fault.Fault.{Fault}
use Rattle.market.specs.Orders.{zero64}
use Rattle.market.specs.Rows.{supplier_tests, rows_tests, good_rows}
use Rattle.market.specs.declared.quote.Quote.{Quote}
use Rattle.market.specs.declared.table.Table.{Table}
use Rattle.market.specs.declared.table.QuoteRows.{QuoteRows}

abbrev pub blank_quote : Quote
blank_quote = record { symbol = 0; bid = zero64; ask = zero64; date = pos 0 }

-- what a read past the end of an array of quotes gives; no code reads there
abbrev pub no_quote : Quote
no_quote = record { symbol = 0; bid = nan; ask = nan; date = pos 0 }

-- finite and above zero
abbrev pub is_price : Float → Bool
is_price x = finite x && lt zero64 x

-- a row of quotes: 2 bid or ask not finite or not above zero
abbrev pub row_tests : ℕ → Quote → List Test
row_tests least q = supplier_tests least q.symbol (is_price q.bid && is_price q.ask)

-- the rows in order
abbrev pub table_tests : ℕ → List Quote → List Test
table_tests least l = rows_tests row_tests (λ q. q.symbol) least l

-- the row for a symbol
abbrev pub row_for : List Quote → ℕ → Option Quote
row_for [] n = None
row_for (q ∷ l) n = cond (eqb q.symbol n) (Some q) (row_for l n)

-- rows in the first places of an array of 257, and how many they are
abbrev pub listing : List Quote → QuoteRows
listing l = record { rows = over l (replicate 257 blank_quote); count = length l }

-- ---- the table by symbol

unfoldable pub empty_table : Table
empty_table = record { rows = replicate 256 None; fault = None }

-- a row put at its symbol's place
abbrev pub put_row : Table → Quote → Table
put_row t q = record { rows = set t.rows q.symbol (Some q); fault = t.fault }

abbrev pub faulted : Table → Option Fault → Table
faulted t f = record { rows = t.rows; fault = f }

-- the rows are put in up to the first that draws a number, which the table keeps
unfoldable pub table_of : List Quote → Table
table_of l = faulted (foldl put_row empty_table (good_rows row_tests (λ q. q.symbol) 0 l)) (drawn (table_tests 0 l))

-- the row that a table has for a symbol
abbrev pub row_at : Table → ℕ → Option Quote
row_at t n = get_or t.rows n None
