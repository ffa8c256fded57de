-- A quote line: document 02, request 2. Its text, and what is read of a text. Definitions only.
use Rattle.std.specs.Prelude.{ℕ, suc, min, true, List, [], ◌∷◌, ◌++◌, ℤ, take, drop}
use Rattle.std.specs.Prelude.{Option, None, Some}
use Rattle.std.specs.Float.{binary64}
use Rattle.std.specs.Float.Ieee.{of_bits, to_bits}
use Rattle.lists.specs.Lists.{gather, given}
use Rattle.market.specs.declared.quote.Quote.{Quote}
use Rattle.words.specs.Words.{is_byte, lead}
use Rattle.numerals.specs.Numerals.{digits, date_text, hex16, decimal_in, date_in, bits_in}

-- what a line says: a symbol, which may be any whole number, a date, and the bits of bid and ask
pub record Line : Type 0 where
  pub symbol : ℕ
  pub date : ℤ
  pub bid : ℕ
  pub ask : ℕ

-- the bytes `,` and newline
abbrev pub comma : List ℕ
comma = 44 ∷ []

abbrev pub newline : List ℕ
newline = 10 ∷ []

-- ---- the text

-- symbol,date,bid,ask
abbrev pub line_text : Line → List ℕ
line_text l = digits l.symbol ++ comma ++ date_text l.date ++ comma ++ hex16 l.bid ++ comma ++ hex16 l.ask

-- what a row's line says, under a symbol
abbrev pub line_for : ℕ → Quote → Line
line_for s q = record { symbol = s; date = q.date; bid = to_bits binary64 q.bid; ask = to_bits binary64 q.ask }

-- a row's line, with its newline
abbrev pub line_of : Quote → List ℕ
line_of q = line_text (line_for q.symbol q) ++ newline

-- the text of a table: its rows' lines, one behind the other
abbrev pub text_of : List Quote → List ℕ
text_of t = gather line_of t

-- ---- the reading

-- what stands before the first comma, all where there is none; and what stands behind it
abbrev pub before : List ℕ → List ℕ
before s = take (lead (is_byte 44 true) s) s

abbrev pub behind : List ℕ → List ℕ
behind s = drop (suc (lead (is_byte 44 true) s)) s

-- a line, where each of its fields says something
abbrev pub line_with : Option ℕ → Option ℤ → Option ℕ → Option ℕ → Option Line
line_with symbol date bid ask =
    given symbol None (λ n. given date None (λ d. given bid None (λ b. given ask None (λ a. Some (record { symbol = n; date = d; bid = b; ask = a })))))

-- the line that a text is: a symbol, a date and a bid that commas end, and an ask
unfoldable pub line_in : List ℕ → Option Line
line_in s =
    line_with (decimal_in (before s)) (date_in (before (behind s))) (bits_in (before (behind (behind s)))) (bits_in (behind (behind (behind s))))

-- the row that a line says
abbrev pub quote_of : Line → Quote
quote_of l = record { symbol = l.symbol; bid = of_bits binary64 l.bid; ask = of_bits binary64 l.ask; date = l.date }

-- the same with a symbol that stops growing at 256, as the program has it: above 255 it draws 1 whatever it is
abbrev pub capped_quote : Line → Quote
capped_quote l = quote_of (record { symbol = min l.symbol 256; date = l.date; bid = l.bid; ask = l.ask })
