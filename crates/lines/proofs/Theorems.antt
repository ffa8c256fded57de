-- The theorems of quote lines: a table's text is read back as that table, and what is read has no other text. Assumes nothing.
use Prim.Native.Nat.{ℕ, ◌+◌, ◌*◌, ◌^◌, ◌≤◌, ◌<◌, min}
use mathlib.Core.Bool.{true, false, not}
use mathlib.Core.Path.{◌≡◌, refl, ap, ap₂, sym, ◌∙◌}
use mathlib.Core.List.{List, [], ◌∷◌, ◌++◌, append_assoc}
use Rattle.std.specs.declared.option.Option.{Option}
use Rattle.std.specs.declared.option.Option.TheVariants.{None, Some}
use native.Mathlib.Omega.{arith}
use borrow.Author.Tests.{ltb-false, le-ltb, not-false}
use lib.Dec.{T, eqb, ltb}
use lib.Ieee.{Float, nan, inf, fin, binary64, is_nan, of_bits, to_bits}
use lib.Ieee.Bits.{of_bits-to_bits, to_bits-lt, of_bits-fits, to_bits-of_bits}
use lib.ListN.{length, length-append}
use Rattle.std.specs.List.{All as Each}
use Rattle.std.proofs.lemmas.List.Elements.{All-nil, All-cons}
use Rattle.lists.specs.Lists.{All}
use Rattle.market.specs.Faults.{Test, drawn, unless_drawn, first_drawn}
use Rattle.market.specs.declared.fault.Fault.{Fault}
use Rattle.market.specs.declared.fault.Fault.TheVariants.{UnknownSymbol, BadValue, ListTooShort, MalformedLine, TextTooLong}
use Rattle.market.specs.Quotes.{is_price, row_tests, table_tests}
use Rattle.market.specs.Rows.{rows_tests}
use Rattle.market.specs.declared.quote.Quote.{Quote}
use Rattle.market.proofs.Faults.{some-drawn, drawn-append, append-none, none-drawn, unless-none, test-fails}
use Rattle.market.proofs.Rows.{good-all, good-few}
use Rattle.market.proofs.Tables.{quote-laws, row-ascends, rows_none}
use Rattle.words.specs.Words.{split}
use Rattle.numerals.proofs.Bytes.{Lacks}
use Rattle.numerals.proofs.Dates.{date-length}
use Rattle.numerals.proofs.Hexes.{length-hex}
use Rattle.numerals.proofs.Tests.{and-true}
use Rattle.lines.specs.Claims.{Said, HeldRow, Held, ReadsText, OneText, SameText, RowsHeld, ReadSound, TextFits, RowsFit, SoundText}
use Rattle.lines.specs.Lines.{Line, newline, line_text, line_for, line_of, text_of, line_in, quote_of}
use Rattle.lines.specs.Reading.{lines_in, lines_of, line_tests, line_symbol, read_fault, rows_in, rows_read, lines_fault}
use Rattle.lines.specs.Writing.{write_fault, text_written}
use Rattle.lines.proofs.Cuts.{joined, joined-split}
use Rattle.lines.proofs.Forms.{line-lacks, line_read, line-said, line-is}
use Rattle.lines.proofs.Lines.{no_lines, line-cut}
use Rattle.lines.proofs.Loading.{malformed-draws, none-drew}
use Rattle.lines.proofs.Putting.{symbol-fits}

-- ---- lines that draw nothing

-- where lines draw nothing, the first does not, nor do the others
lines_none : (least : ℕ) (o : Option Line) (ls : List (Option Line)) → drawn (rows_tests line_tests line_symbol least (o ∷ ls)) ≡ None → (drawn (line_tests least o) ≡ None) × (drawn (rows_tests line_tests line_symbol (line_symbol o + 1) ls) ≡ None)
lines_none least o ls e = append-none (line_tests least o) (rows_tests line_tests line_symbol (line_symbol o + 1) ls) e

-- so the first is of the form
form-first : (least : ℕ) (ls : List (Option Line)) → drawn (rows_tests line_tests line_symbol least (None ∷ ls)) ≡ None → ⊥
form-first least ls e = some-drawn MalformedLine (sym (malformed-draws least) ∙ (lines_none least None ls e).0)

rows-sound : (least : ℕ) (ls : List (Option Line)) → drawn (rows_tests line_tests line_symbol least ls) ≡ None → drawn (table_tests least (rows_in ls)) ≡ None
rows-sound least [] e = e
rows-sound least (None ∷ ls) e = absurd (form-first least ls e)
rows-sound least (Some l ∷ ls) e =
    let d = lines_none least (Some l) ls e in
    drawn-append (row_tests least (quote_of l)) (table_tests (l.symbol + 1) (rows_in ls))
    ∙ ap (λ (f : Option Fault). first_drawn f (drawn (table_tests (l.symbol + 1) (rows_in ls)))) d.0
    ∙ rows-sound (l.symbol + 1) ls d.1

-- rows that draw nothing are at most 256
rows_few : (t : List Quote) → drawn (table_tests 0 t) ≡ None → length t ≤ 256
rows_few t e =
    omega (
      arith,
      good-few row_tests (λ q. q.symbol) quote-laws 0 t (omega arith),
      ap length (good-all row_tests (λ q. q.symbol) quote-laws 0 t e),
    )

-- ---- what is read

none_read : (room : ℕ) (s : List ℕ) → read_fault room s ≡ None → (256 ≤ room) × (lines_fault s ≡ None)
unfolding read_fault
none_read room s e =
    let a = none-drawn _ ListTooShort _ e in
    let b = none-drawn _ TextTooLong _ a.1 in
    (ltb-false room 256 a.0, b.1)

-- it is nothing, or the rows of lines that draw nothing
read_by : (P : List Quote → Type 0) (room : ℕ) (s : List ℕ) → P [] → (256 ≤ room → lines_fault s ≡ None → P (rows_in (lines_of s))) → P (rows_read room s)
unfolding rows_read
read_by P room s p f = go (read_fault room s) refl
  where
    go : (d : Option Fault) → read_fault room s ≡ d → P (unless_drawn d (rows_in (lines_of s)) [])
    go None e = f (none_read room s e).0 (none_read room s e).1
    go (Some k) e = p

pub rows_fit : RowsFit
rows_fit room s = read_by (λ t. length t ≤ min room 256) room s (omega arith) (λ h e. omega (arith, rows_few (rows_in (lines_of s)) (rows-sound 0 (lines_of s) e)))

pub read-sound : ReadSound
read-sound room s = read_by (λ t. drawn (table_tests 0 t) ≡ None) room s (none-drew 0) (λ h e. rows-sound 0 (lines_of s) e)

pub sound-text : SoundText
unfolding text_written write_fault
sound-text room out s h =
    let t = rows_read room s in
    sym (unless-none _ (text_of t) [] (test-fails (ltb out 15104) ListTooShort (table_tests 0 t) (le-ltb out 15104 h) ∙ read-sound room s))

-- ---- each row that is read is of 64 bits

abbrev SaidIn : Option Line → Type 0
SaidIn None = Unit {0}
SaidIn (Some l) = Said l

said_in : (s : List ℕ) (o : Option Line) → line_in s ≡ o → SaidIn o
said_in s None e = tt
said_in s (Some l) e = line-said s l e

all_said : (ps : List (List ℕ)) → All SaidIn (lines_in ps)
all_said [] = tt
all_said ([] ∷ []) = tt
all_said ((b ∷ s) ∷ []) = (tt, tt)
all_said (s ∷ p ∷ ps) = (said_in s (line_in s) refl, all_said (p ∷ ps))

all_held : (ls : List (Option Line)) → All SaidIn ls → Held (rows_in ls)
all_held [] h = tt
all_held (None ∷ ls) h = all_held ls h.1
all_held (Some l ∷ ls) h = (record { date = h.0.date; bid = of_bits-fits binary64 l.bid; ask = of_bits-fits binary64 l.ask }, all_held ls h.1)

pub rows-held : RowsHeld
unfolding lines_of
rows-held room s = read_by Held room s tt (λ h e. all_held (lines_of s) (all_said (split 10 s)))

-- ---- what is read has one text

-- a price is no NaN, so its bits are those that were read
price-some : (x : Float) → is_price x ≡ true → T (not (is_nan x))
unfolding is_nan
price-some nan e = let z : ◌≡◌ {A = ℕ} 0 1 = cc in absurd (omega arith)
price-some (inf s) e = let z : ◌≡◌ {A = ℕ} 0 1 = cc in absurd (omega arith)
price-some (fin s m d) e = tt

row-priced : (least : ℕ) (q : Quote) → drawn (row_tests least q) ≡ None → (is_price q.bid ≡ true) × (is_price q.ask ≡ true)
row-priced least q e =
    let a = none-drawn _ UnknownSymbol _ e in
    let b = none-drawn _ BadValue _ a.1 in
    and-true (is_price q.bid) (is_price q.ask) (not-false _ b.0)

bits-same : (n : ℕ) → n < 2 ^ 64 → is_price (of_bits binary64 n) ≡ true → to_bits binary64 (of_bits binary64 n) ≡ n
bits-same n h e = to_bits-of_bits binary64 n h (price-some _ e)

line_same : (least : ℕ) (l : Line) → Said l → drawn (row_tests least (quote_of l)) ≡ None → line_for l.symbol (quote_of l) ≡ l
line_same least l h e =
    let p = row-priced least (quote_of l) e in
    ap₂ (λ (b a : ℕ). record { symbol = l.symbol; date = l.date; bid = b; ask = a }) (bits-same l.bid h.bid p.0) (bits-same l.ask h.ask p.1)

one_line : (least : ℕ) (s : List ℕ) (o : Option Line) (ls : List (Option Line)) (r : List ℕ) → line_in s ≡ o → drawn (rows_tests line_tests line_symbol least (o ∷ ls)) ≡ None → ((m : ℕ) → drawn (rows_tests line_tests line_symbol m ls) ≡ None → text_of (rows_in ls) ≡ r) → text_of (rows_in (o ∷ ls)) ≡ s ++ 10 ∷ r
one_line least s None ls r i e f = absurd (form-first least ls e)
one_line least s (Some l) ls r i e f =
    let d = lines_none least (Some l) ls e in
    ap (λ (k : List ℕ). k ++ newline ++ text_of (rows_in ls)) (ap line_text (line_same least l (line-said s l i) d.0) ∙ sym (line-is s l i))
    ∙ append_assoc s newline (text_of (rows_in ls))
    ∙ ap (λ (k : List ℕ). s ++ 10 ∷ k) (f (l.symbol + 1) d.1)

one-parts : (least : ℕ) (ps : List (List ℕ)) → drawn (rows_tests line_tests line_symbol least (lines_in ps)) ≡ None → text_of (rows_in (lines_in ps)) ≡ joined 10 ps
one-parts least [] e = refl
one-parts least ([] ∷ []) e = refl
one-parts least ((b ∷ s) ∷ []) e = absurd (form-first least [] e)
one-parts least (s ∷ p ∷ ps) e = one_line least s (line_in s) (lines_in (p ∷ ps)) (joined 10 (p ∷ ps)) refl e (λ m. one-parts m (p ∷ ps))

pub one-text : OneText
unfolding rows_read lines_of
one-text room s e =
    ap text_of (sym (unless-none (read_fault room s) (rows_in (lines_of s)) [] e))
    ∙ one-parts 0 (split 10 s) (none_read room s e).1
    ∙ joined-split 10 s

pub same_text : SameText
same_text room s t e f same = sym (one-text room s e) ∙ ap text_of same ∙ one-text room t f

-- ---- how long a text is

row-length : (q : Quote) → HeldRow q → q.symbol < 256 → length (line_of q) ≤ 59
row-length q h s =
    let symbol = symbol-fits q.symbol s in
    let date = date-length q.date h.date in
    let bid = length-hex (to_bits binary64 q.bid) in
    let ask = length-hex (to_bits binary64 q.ask) in
    simp length-append (omega arith)

-- 59 bytes for each symbol from `least` on
text-most : (least : ℕ) (t : List Quote) → Held t → drawn (table_tests least t) ≡ None → least ≤ 256 → 59 * least + length (text_of t) ≤ 15104
text-most least [] h e l = omega arith
text-most least (q ∷ t) h e l =
    let d = rows_none least q t e in
    let a = row-ascends least q d.0 in
    omega (
      arith,
      a.low,
      length-append (line_of q) (text_of t),
      row-length q h.0 a.high,
      text-most (q.symbol + 1) t h.1 d.1 (omega (arith, a.high)),
    )

pub text-fits : TextFits
text-fits t h e = omega (arith, text-most 0 t h e (omega arith))

-- ---- a table's text is read back

-- a text that lacks newlines has none at any place
lacks-each : (p : List ℕ) → Lacks 10 p → Each (λ b. eqb b 10 ≡ false) p
lacks-each [] h = All-nil (λ b. eqb b 10 ≡ false)
lacks-each (x ∷ p) h = All-cons (λ b. eqb b 10 ≡ false) x p h.0 (lacks-each p h.1)

row-said : (q : Quote) → HeldRow q → Said (line_for q.symbol q)
row-said q h = record { date = h.date; bid = to_bits-lt binary64 q.bid h.bid; ask = to_bits-lt binary64 q.ask h.ask }

row_same : (q : Quote) → HeldRow q → quote_of (line_for q.symbol q) ≡ q
row_same q h =
    ap₂ (λ (b a : Float). record { symbol = q.symbol; bid = b; ask = a; date = q.date }) (of_bits-to_bits binary64 q.bid h.bid) (of_bits-to_bits binary64 q.ask h.ask)

-- the lines of a table
abbrev lines_for : List Quote → List (Option Line)
lines_for [] = []
lines_for (q ∷ t) = Some (line_for q.symbol q) ∷ lines_for t

lines-read : (t : List Quote) → Held t → lines_of (text_of t) ≡ lines_for t
lines-read [] h = no_lines
lines-read (q ∷ t) h =
    let l = line_for q.symbol q in
    ap lines_of (append_assoc (line_text l) newline (text_of t))
    ∙ line-cut (line_text l) (text_of t) (lacks-each (line_text l) (line-lacks l))
    ∙ ap₂ (λ (o : Option Line) (ls : List (Option Line)). o ∷ ls) (line_read l (row-said q h.0)) (lines-read t h.1)

same_tests : (least : ℕ) (t : List Quote) → Held t → rows_tests line_tests line_symbol least (lines_for t) ≡ table_tests least t
same_tests least [] h = refl
same_tests least (q ∷ t) h = ap₂ (λ (r : Quote) (l : List Test). row_tests least r ++ l) (row_same q h.0) (same_tests (q.symbol + 1) t h.1)

same_rows : (t : List Quote) → Held t → rows_in (lines_for t) ≡ t
same_rows [] h = refl
same_rows (q ∷ t) h = ap₂ (λ (r : Quote) (l : List Quote). r ∷ l) (row_same q h.0) (same_rows t h.1)

pub reads-text : ReadsText
unfolding read_fault rows_read
reads-text room t wide h e =
    let s = text_of t in
    let f : read_fault room s ≡ None
    = test-fails (ltb room 256) ListTooShort _ (le-ltb room 256 wide)
    ∙ test-fails (ltb 65536 (length s)) TextTooLong _ (le-ltb 65536 (length s) (omega (arith, text-fits t h e)))
    ∙ ap (λ (ls : List (Option Line)). drawn (rows_tests line_tests line_symbol 0 ls)) (lines-read t h)
    ∙ ap drawn (same_tests 0 t h)
    ∙ e in
    (f, sym (unless-none _ (rows_in (lines_of s)) [] f) ∙ ap rows_in (lines-read t h) ∙ same_rows t h)
