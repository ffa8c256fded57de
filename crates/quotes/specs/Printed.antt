-- What is written for an input: document 02, request 2. Definitions only.
use Rattle.std.specs.Prelude.{ℕ, List, ◌++◌, ◌≡◌, None}
use Rattle.market.specs.Faults.{number_drawn, unless_drawn}
use Rattle.numerals.specs.Numerals.{digits}
use Rattle.lines.specs.Lines.{newline, text_of}
use Rattle.lines.specs.Reading.{read_fault, rows_read}

-- a number on a line
abbrev pub number_line : ℕ → List ℕ
number_line n = digits n ++ newline

-- the text of the rows that are read; where a number is drawn, the number on a line
unfoldable pub printed_of : List ℕ → List ℕ
printed_of s = unless_drawn (read_fault 256 s) (text_of (rows_read 256 s)) (number_line (number_drawn (read_fault 256 s)))

-- so a text that draws no number is written as it is
abbrev pub SamePrinted : Type 0
SamePrinted = (s : List ℕ) → read_fault 256 s ≡ None → printed_of s ≡ s
