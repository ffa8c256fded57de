-- Lines and inputs as document 02 describes them, and what they say: a table that one theorem proves. Definitions only.
use Rattle.std.specs.Prelude.{ℕ, List, [], ◌∷◌, ◌++◌, ◌≡◌, ℤ, neg_ℤ, pos, replicate, None, Some}
use Prim.Native.String.{String}
use Rattle.std.specs.Float.{binary64}
use Rattle.std.specs.Float.Ieee.{of_bits}
use Rattle.market.specs.declared.fault.Fault.TheVariants.{UnknownSymbol, BadValue, NotAscending, ListTooShort, MalformedLine, TextTooLong}
use Rattle.market.specs.declared.quote.Quote.{Quote}
use Rattle.words.specs.Words.{ascii}
use Rattle.lines.specs.Lines.{text_of, newline}
use Rattle.lines.specs.Reading.{read_fault, rows_read}
use Rattle.lines.specs.Writing.{write_fault, text_written}

-- an input of lines that each end in a newline
abbrev ended : List String → List ℕ
ended [] = []
ended (s ∷ l) = ascii s ++ newline ++ ended l

-- bid 1.0 and ask 2.0
abbrev quoted : ℕ → ℤ → Quote
quoted symbol date = record { symbol = symbol; bid = of_bits binary64 0x3ff0000000000000; ask = of_bits binary64 0x4000000000000000; date = date }

abbrev example : String
example = "7,-1,3ff0000000000000,4000000000000000"

-- the worked cases of lines, by their number in docs/CASES.md
abbrev pub Examples : Type 0
Examples =
    -- 2011: the example of document 02: symbol 7, date -1, bid 1, ask 2; and its text
    (read_fault 256 (ended (example ∷ [])) ≡ None)
    × (rows_read 256 (ended (example ∷ [])) ≡ quoted 7 (neg_ℤ (pos 1)) ∷ [])
    × (text_of (quoted 7 (neg_ℤ (pos 1)) ∷ []) ≡ ended (example ∷ []))
    -- 2012: no newline: 19, and so is an empty line, a field more or less, a carriage return
    × (read_fault 256 (ascii example) ≡ Some MalformedLine)
    × (read_fault 256 newline ≡ Some MalformedLine)
    × (read_fault 256 (ended ("7,-1,3ff0000000000000,4000000000000000," ∷ [])) ≡ Some MalformedLine)
    × (read_fault 256 (ended ("7,-1,3ff0000000000000" ∷ [])) ≡ Some MalformedLine)
    × (read_fault 256 (ascii example ++ 13 ∷ newline) ≡ Some MalformedLine)
    -- 2013: on a line 19 comes before 1, and 1 before 2 before 3; an earlier line before a later one
    × (read_fault 256 (ended ("256,+1,3ff0000000000000,4000000000000000" ∷ [])) ≡ Some MalformedLine)
    × (read_fault 256 (ended ("256,1,0000000000000000,4000000000000000" ∷ [])) ≡ Some UnknownSymbol)
    × (read_fault 256 (ended (example ∷ "6,1,0000000000000000,4000000000000000" ∷ [])) ≡ Some BadValue)
    × (read_fault 256 (ended (example ∷ "7,1,3ff0000000000000,4000000000000000" ∷ "x" ∷ [])) ≡ Some NotAscending)
    × (read_fault 256 (ended (example ∷ "8,1,3ff0000000000000,4000000000000000" ∷ "x" ∷ [])) ≡ Some MalformedLine)
    -- 2014: the empty input is the empty table, and the other way round
    × (read_fault 256 [] ≡ None)
    × (rows_read 256 [] ≡ [])
    × (text_of [] ≡ [])
    -- 2015: 15 comes first, also for the empty input; 20 before any line, and not at 65,536 bytes
    × (read_fault 255 [] ≡ Some ListTooShort)
    × (read_fault 255 (replicate 65537 48) ≡ Some ListTooShort)
    × (read_fault 256 (replicate 65537 48) ≡ Some TextTooLong)
    × (read_fault 256 (replicate 65536 48) ≡ Some MalformedLine)
    -- 2016: a symbol that 32 bits would wrap to 7
    × (read_fault 256 (ended ("4294967303,-1,3ff0000000000000,4000000000000000" ∷ [])) ≡ Some UnknownSymbol)
    -- 2017: two rows, in their order
    × (text_of (quoted 0 (pos 0) ∷ quoted 255 (pos 0) ∷ []) ≡ ended ("0,0,3ff0000000000000,4000000000000000" ∷ "255,0,3ff0000000000000,4000000000000000" ∷ []))
    × (rows_read 256 (ended ("0,0,3ff0000000000000,4000000000000000" ∷ "255,0,3ff0000000000000,4000000000000000" ∷ [])) ≡ quoted 0 (pos 0) ∷ quoted 255 (pos 0) ∷ [])
    -- 2018: the writer: 15 comes first, then the rows; nothing is written where a number is drawn
    × (write_fault 15103 [] ≡ Some ListTooShort)
    × (write_fault 15104 [] ≡ None)
    × (write_fault 15103 (quoted 256 (pos 0) ∷ []) ≡ Some ListTooShort)
    × (write_fault 15104 (quoted 256 (pos 0) ∷ []) ≡ Some UnknownSymbol)
    × (write_fault 15104 (quoted 7 (pos 0) ∷ quoted 7 (pos 0) ∷ []) ≡ Some NotAscending)
    × (text_written 15104 (quoted 7 (pos 0) ∷ quoted 7 (pos 0) ∷ []) ≡ [])
    × (text_written 15104 (quoted 7 (neg_ℤ (pos 1)) ∷ []) ≡ ended (example ∷ []))
