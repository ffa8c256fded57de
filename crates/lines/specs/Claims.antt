-- What is proved of quote lines beside the contracts: which texts are lines, that a table's text is read back, that it is the only one, and how long it is. Definitions only.
use Rattle.std.specs.Prelude.{ℕ, ◌^◌, ◌≤◌, ◌<◌, min, List, ◌≡◌, T, length, None, Some}
use Rattle.std.specs.Float.{binary64}
use Rattle.std.specs.Float.Ieee.{fits}
use Rattle.std.specs.Int.{w64}
use Rattle.std.proofs.Common.{SFits}
use Rattle.lists.specs.Lists.{All}
use Rattle.market.specs.Faults.{drawn}
use Rattle.market.specs.Quotes.{table_tests}
use Rattle.market.specs.declared.quote.Quote.{Quote}
use Rattle.lines.specs.Lines.{Line, line_text, line_in, text_of}
use Rattle.lines.specs.Reading.{read_fault, rows_read}
use Rattle.lines.specs.Writing.{text_written}

-- ---- a line

-- a line whose date and bits are of 64 bits
pub record Said (l : Line) : Type 0 where
  pub date : SFits w64 l.date
  pub bid : l.bid < 2 ^ 64
  pub ask : l.ask < 2 ^ 64

-- a text is read as a line exactly where it is that line's text
abbrev pub LineForm : Type 0
LineForm = (s : List ℕ) (l : Line) → (line_in s ≡ Some l → Said l × (s ≡ line_text l)) × (Said l → s ≡ line_text l → line_in s ≡ Some l)

-- ---- a table

-- a row as every table of the program has it: a date of 64 bits, and floats of 64 bits
pub record HeldRow (q : Quote) : Type 0 where
  pub date : SFits w64 q.date
  pub bid : T (fits binary64 q.bid)
  pub ask : T (fits binary64 q.ask)

abbrev pub Held : List Quote → Type 0
Held t = All HeldRow t

-- a table whose rows draw no number: reading its text, to a lent table that is long enough, gives it back
abbrev pub ReadsText : Type 0
ReadsText = (room : ℕ) (t : List Quote) → 256 ≤ room → Held t → drawn (table_tests 0 t) ≡ None → (read_fault room (text_of t) ≡ None) × (rows_read room (text_of t) ≡ t)

-- what is read has just this text: the table's
abbrev pub OneText : Type 0
OneText = (room : ℕ) (s : List ℕ) → read_fault room s ≡ None → text_of (rows_read room s) ≡ s

-- so two texts that are read as the same table are the same
abbrev pub SameText : Type 0
SameText = (room : ℕ) (s t : List ℕ) → read_fault room s ≡ None → read_fault room t ≡ None → rows_read room s ≡ rows_read room t → s ≡ t

-- what is read is a table of the program, and draws no number; where a number was drawn there is no row
abbrev pub RowsHeld : Type 0
RowsHeld = (room : ℕ) (s : List ℕ) → Held (rows_read room s)

abbrev pub ReadSound : Type 0
ReadSound = (room : ℕ) (s : List ℕ) → drawn (table_tests 0 (rows_read room s)) ≡ None

-- the text of a table has at most 256 lines of 59 bytes
abbrev pub TextFits : Type 0
TextFits = (t : List Quote) → Held t → drawn (table_tests 0 t) ≡ None → length (text_of t) ≤ 15104

-- what is read fits the lent table
abbrev pub RowsFit : Type 0
RowsFit = (room : ℕ) (s : List ℕ) → length (rows_read room s) ≤ min room 256

-- writing what was read, to a buffer that is long enough, draws no number
abbrev pub SoundText : Type 0
SoundText = (room out : ℕ) (s : List ℕ) → 15104 ≤ out → text_written out (rows_read room s) ≡ text_of (rows_read room s)
