-- The lines of an input, the numbers that they draw, and the rows that are read: document 02, request 2. Definitions only.
use Rattle.std.specs.Prelude.{ℕ, min, true, List, [], ◌∷◌, ltb, ℤ, Float, length}
use Rattle.std.specs.Prelude.{Option, None, Some, Result}
use Rattle.lists.specs.Lists.{gather, given}
use Rattle.market.specs.Faults.{Test, ◌draws◌, drawn, unless_drawn, ok_unless}
use Rattle.market.specs.declared.fault.Fault.{Fault}
use Rattle.market.specs.declared.fault.Fault.TheVariants.{ListTooShort, MalformedLine, TextTooLong}
use Rattle.market.specs.Quotes.{row_tests}
pub use Rattle.market.specs.Quotes.{listing}
use Rattle.market.specs.Rows.{rows_tests}
use Rattle.market.specs.declared.quote.Quote.{Quote}
use Rattle.words.specs.Words.{split}
use Rattle.lines.specs.Lines.{Line, line_in, quote_of, capped_quote}
pub use Rattle.market.specs.declared.table.QuoteRows.{QuoteRows}

-- ---- the lines

-- what stands behind the last newline is no line where it is empty, else one whose newline is missing
abbrev pub unfinished : List ℕ → List (Option Line)
unfinished [] = []
unfinished (b ∷ s) = None ∷ []

-- the lines of the parts that newlines separate; `none` is a line not of the form
abbrev pub lines_in : List (List ℕ) → List (Option Line)
lines_in [] = []
lines_in (s ∷ []) = unfinished s
lines_in (s ∷ p ∷ ps) = line_in s ∷ lines_in (p ∷ ps)

-- the lines of an input: each ends at a newline
unfoldable pub lines_of : List ℕ → List (Option Line)
lines_of s = lines_in (split 10 s)

-- ---- the numbers

-- per line: 19 not of the form, then 1 symbol above 255, 2 bid or ask not finite or not above zero, 3 row not ascending
abbrev pub line_tests : ℕ → Option Line → List Test
line_tests least None = (true draws MalformedLine) ∷ []
line_tests least (Some l) = row_tests least (quote_of l)

-- the symbol that the next line's must pass; behind a line not of the form no line is read
abbrev pub line_symbol : Option Line → ℕ
line_symbol None = 0
line_symbol (Some l) = l.symbol

-- 15 a lent table of fewer than 256 rows; 20 an input above 65,536 bytes; then the lines in order
abbrev pub read_tests : ℕ → List ℕ → List Test
read_tests room s = (ltb room 256 draws ListTooShort) ∷ (ltb 65536 (length s) draws TextTooLong) ∷ rows_tests line_tests line_symbol 0 (lines_of s)

-- what reading draws
unfoldable pub read_fault : ℕ → List ℕ → Option Fault
read_fault room s = drawn (read_tests room s)

-- ---- the rows

-- the row of each line, in order
abbrev pub rows_in : List (Option Line) → List Quote
rows_in ls = gather (λ o. given o [] (λ l. quote_of l ∷ [])) ls

-- the rows that are read: none where a number is drawn
unfoldable pub rows_read : ℕ → List ℕ → List Quote
rows_read room s = unless_drawn (read_fault room s) (rows_in (lines_of s)) []

-- ---- what the program's answers say

-- the row of a line, as the program has it
abbrev pub capped_row : Option Line → Option Quote
capped_row None = None
capped_row (Some l) = Some (capped_quote l)

-- a row, where each field says something
abbrev pub quote_with : Option ℕ → Option ℤ → Option Float → Option Float → Option Quote
quote_with symbol date bid ask =
    given symbol None (λ n. given date None (λ d. given bid None (λ b. given ask None (λ a. Some (record { symbol = min n 256; bid = b; ask = a; date = d })))))

-- what the lines alone draw, and what they come to
abbrev pub lines_fault : List ℕ → Option Fault
lines_fault s = drawn (rows_tests line_tests line_symbol 0 (lines_of s))

unfoldable pub lines_read : List ℕ → Result QuoteRows Fault
lines_read s = ok_unless (lines_fault s) (listing (rows_in (lines_of s)))

-- the rows that are read and how many they are, or what was drawn
unfoldable pub read_of : ℕ → List ℕ → Result QuoteRows Fault
read_of room s = ok_unless (read_fault room s) (listing (rows_read room s))
