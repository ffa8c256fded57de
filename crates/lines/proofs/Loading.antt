-- The loop of the reader: the rows so far, and what the lines that are left draw and give. Assumes nothing.
use Prim.Native.Nat.{ℕ, suc, ◌+◌, ◌≤◌, ◌<◌, min}
use mathlib.Core.Bool.{Bool, true, false, ◌&&◌}
use mathlib.Core.Path.{◌≡◌, refl, ap, sym, subst, ◌∙◌}
use mathlib.Core.List.{List, [], ◌∷◌, ◌++◌, append_assoc, append-nil}
use Rattle.std.specs.declared.option.Option.{Option}
use Rattle.std.specs.declared.option.Option.TheVariants.{None, Some}
use Rattle.std.specs.Prelude.{Ok, Err}
use Rattle.std.proofs.lemmas.Option.{same_Some, none-some}
use native.Mathlib.Numerals.{add-one}
use native.Mathlib.Omega.{arith}
use borrow.Author.Tests.{lt-ltb, ltb-true, ltb-false}
use lib.Dec.{ltb}
use lib.ListN.{length, take, drop, set, replicate, length-set, take-append-drop}
use lib.Seq.{take-suc-set, drop-set-lt, length-take-le, drop-drop}
use Rattle.lists.specs.Lists.{over}
use Rattle.market.specs.Faults.{drawn, first_drawn, ok_unless}
use Rattle.market.specs.declared.fault.Fault.{Fault}
use Rattle.market.specs.declared.fault.Fault.TheVariants.{UnknownSymbol, MalformedLine}
use Rattle.market.specs.Quotes.{blank_quote, is_price, row_tests, listing}
use Rattle.market.specs.Rows.{supplier_tests, rows_tests}
use Rattle.market.specs.declared.quote.Quote.{Quote}
use Rattle.market.proofs.Faults.{drawn-append, test-holds}
use Rattle.market.proofs.Tables.{row-ascends}
use Rattle.lines.specs.Lines.{Line, line_in, quote_of, capped_quote}
use Rattle.lines.proofs.Lines.{line_before}
use denote.Ref.{Bor}
use Rattle.lines.specs.Reading.{capped_row, lines_of, line_tests, line_symbol, read_fault, rows_in, rows_read, lines_fault, lines_read, read_of}

-- ---- one line

-- a symbol above 255 draws 1, whatever it is; another is as it was
module _ (least : ℕ) (l : Line) where
  abbrev sound : Bool
  sound = is_price (quote_of l).bid && is_price (quote_of l).ask

  capped-by : (b : Bool) → ltb 255 l.symbol ≡ b → drawn (row_tests least (capped_quote l)) ≡ drawn (row_tests least (quote_of l))
  capped-by true e =
      let h = ltb-true 255 l.symbol e in
      test-holds _ UnknownSymbol _ (lt-ltb 255 (min l.symbol 256) (omega arith)) ∙ sym (test-holds _ UnknownSymbol _ e)
  capped-by false e =
      let h = ltb-false 255 l.symbol e in
      let q : min l.symbol 256 ≡ l.symbol = omega arith in
      ap (λ (n : ℕ). drawn (supplier_tests least n sound)) q

  pub capped-draws : drawn (row_tests least (capped_quote l)) ≡ drawn (row_tests least (quote_of l))
  capped-draws = capped-by (ltb 255 l.symbol) refl

  -- where it draws nothing the symbol is as it was
  pub capped-row : drawn (row_tests least (capped_quote l)) ≡ None → capped_quote l ≡ quote_of l
  capped-row z =
      let h = (row-ascends least (capped_quote l) z).high in
      let q : min l.symbol 256 ≡ l.symbol = omega arith in
      ap (λ (n : ℕ). quote_of (record { symbol = n; date = l.date; bid = l.bid; ask = l.ask })) q

-- what the lines draw, by the first of them
pub lines-drew : (least : ℕ) (o : Option Line) (ls : List (Option Line)) →
    drawn (rows_tests line_tests line_symbol least (o ∷ ls)) ≡ first_drawn (drawn (line_tests least o)) (drawn (rows_tests line_tests line_symbol (line_symbol o + 1) ls))
lines-drew least o ls = drawn-append (line_tests least o) (rows_tests line_tests line_symbol (line_symbol o + 1) ls)

-- a line that is none draws 19
pub malformed-draws : (least : ℕ) → drawn (line_tests least None) ≡ Some MalformedLine
unfolding drawn
malformed-draws least = refl

pub none-drew : (least : ℕ) → drawn (rows_tests line_tests line_symbol least []) ≡ None
unfolding drawn
none-drew least = refl

-- ---- the loop

abbrev blanks : List Quote
blanks = replicate 257 blank_quote

-- n rows of the lines so far stand first in the array, and the lines that are left give what all give
pub record ReadTo (s : List ℕ) (rows : List Quote) (n least : ℕ) (left : List (Option Line)) : Type 0 where
  pub long : length rows ≡ 257
  pub few : n ≤ least
  pub most : least ≤ 256
  pub kept : drop n rows ≡ drop n blanks
  pub read : take n rows ++ rows_in left ≡ rows_in (lines_of s)
  pub drew : drawn (rows_tests line_tests line_symbol least left) ≡ lines_fault s

pub starts : (s : List ℕ) (rows : List Quote) → length rows ≡ 257 → rows ≡ blanks → ReadTo s rows 0 0 (lines_of s)
starts s rows h e = record { long = h; few = omega arith; most = omega arith; kept = e; read = refl; drew = refl }

-- what is drawn is answered
pub refuses : (s : List ℕ) (f : Fault) → Some f ≡ lines_fault s → Err f ≡ lines_read s
unfolding lines_read
refuses s f e = ap (λ (d : Option Fault). ok_unless d (listing (rows_in (lines_of s)))) e

module _ {s : List ℕ} {rows : List Quote} {n least : ℕ} {left : List (Option Line)} (v : ReadTo s rows n least left) where
  -- no line is left
  pub ends : left ≡ [] → Ok (record { rows = rows; count = n }) ≡ lines_read s
  unfolding lines_read
  ends e =
      let none-drawn : lines_fault s ≡ None = sym v.drew ∙ ap (λ (ls : List (Option Line)). drawn (rows_tests line_tests line_symbol least ls)) e ∙ none-drew least in
      let all : take n rows ≡ rows_in (lines_of s)
      = sym (append-nil (take n rows)) ∙ ap (λ (ls : List (Option Line)). take n rows ++ rows_in ls) (sym e) ∙ v.read in
      let size : length (take n rows) ≡ n = length-take-le n rows (omega (arith, v.long, v.few, v.most)) in
      let array : rows ≡ over (take n rows) blanks
      = sym (take-append-drop n rows) ∙ ap (λ (l : List Quote). take n rows ++ l) (v.kept ∙ ap (λ (k : ℕ). drop k blanks) (sym size)) in
      ap (λ (a : List Quote). Ok (record { rows = a; count = n })) array
      ∙ ap (λ (k : ℕ). Ok (record { rows = over (take n rows) blanks; count = k })) (sym size)
      ∙ ap (λ (l : List Quote). Ok (listing l)) all
      ∙ ap (λ (d : Option Fault). ok_unless d (listing (rows_in (lines_of s)))) (sym none-drawn)

  module _ (o : Option Line) (next : List (Option Line)) (first : left ≡ o ∷ next) where
    drew-first : first_drawn (drawn (line_tests least o)) (drawn (rows_tests line_tests line_symbol (line_symbol o + 1) next)) ≡ lines_fault s
    drew-first =
        sym (lines-drew least o next)
        ∙ ap (λ (ls : List (Option Line)). drawn (rows_tests line_tests line_symbol least ls)) (sym first)
        ∙ v.drew

    -- the first line draws a number
    stops : (f : Fault) → Some f ≡ drawn (line_tests least o) → Some f ≡ lines_fault s
    stops f e = ap (λ (d : Option Fault). first_drawn d (drawn (rows_tests line_tests line_symbol (line_symbol o + 1) next))) e ∙ drew-first

  -- a line that is none, or whose newline is missing
  pub stops-none : (next : List (Option Line)) → left ≡ None ∷ next → Some MalformedLine ≡ lines_fault s
  stops-none next e = stops None next e MalformedLine (sym (malformed-draws least))

  -- a line that draws nothing: its row stands behind the others
  module _ (l : Line) (next : List (Option Line)) (first : left ≡ Some l ∷ next) where
    module _ (z : drawn (row_tests least (capped_quote l)) ≡ None) where
      row-high : (capped_quote l).symbol < 256
      row-high = (row-ascends least (capped_quote l) z).high

      room : n < 256
      room = omega (arith, v.few, (row-ascends least (capped_quote l) z).low, row-high)

      goes_on : ReadTo s (set rows n (capped_quote l)) (n + 1) ((capped_quote l).symbol + 1) next
      goes_on =
          let q = capped_quote l in
          let low = (row-ascends least q z).low in
          let same = capped-row least l z in
          let rest = rows_in next in
          let within : n < length rows = omega (arith, v.long, room) in
          record {
            long = length-set rows n q ∙ v.long;
            few = omega (arith, v.few, low);
            most = omega (arith, row-high);
            kept =
                ap (λ (k : ℕ). drop k (set rows n q)) (add-one n)
                ∙ drop-set-lt (suc n) rows n q (omega arith)
                ∙ ap (λ (k : ℕ). drop k rows) (sym (add-one n))
                ∙ sym (drop-drop 1 n rows)
                ∙ ap (drop 1) v.kept
                ∙ drop-drop 1 n blanks;
            read =
                ap (λ (k : ℕ). take k (set rows n q) ++ rest) (add-one n)
                ∙ ap (λ (k : List Quote). k ++ rest) (take-suc-set rows n q within)
                ∙ append_assoc (take n rows) (q ∷ []) rest
                ∙ ap (λ (r : Quote). take n rows ++ (r ∷ rest)) same
                ∙ ap (λ (ls : List (Option Line)). take n rows ++ rows_in ls) (sym first)
                ∙ v.read;
            drew =
                ap (λ (r : Quote). drawn (rows_tests line_tests line_symbol (r.symbol + 1) next)) same
                ∙ ap (λ (d : Option Fault). first_drawn d (drawn (rows_tests line_tests line_symbol (l.symbol + 1) next))) (sym z ∙ capped-draws least l)
                ∙ drew-first (Some l) next first;
          }

    stops-row : (f : Fault) → Some f ≡ drawn (row_tests least (capped_quote l)) → Some f ≡ lines_fault s
    stops-row f e = stops (Some l) next first f (e ∙ capped-draws least l)

-- ---- by what the reader of a line said

-- the row q stands behind the n rows so far, and the reader goes on with the lines `next`
pub record GoesOn (s : List ℕ) (rows : List Quote) (n : ℕ) (q : Quote) (next : List (Option Line)) : Type 0 where
  pub room : n < 256
  pub high : q.symbol < 256
  pub on : ReadTo s (set rows n q) (n + 1) (q.symbol + 1) next

said-none : (o : Option Line) → None ≡ capped_row o → o ≡ None
said-none None e = refl
said-none (Some l) e = absurd (none-some _ e)

said-some : (q : Quote) (o : Option Line) → Some q ≡ capped_row o → (l : Line) × (o ≡ Some l) × (q ≡ capped_quote l)
said-some q None e = absurd (none-some q (sym e))
said-some q (Some l) e = (l, refl, same_Some q (capped_quote l) e)

-- the first line that is left is what stands before a newline in r
module _ {s : List ℕ} {rows : List Quote} {n least : ℕ} {left : List (Option Line)} (v : ReadTo s rows n least left) (r : Option (Bor (List ℕ))) (next : List (Option Line)) (first : left ≡ line_before r ∷ next) where
  abbrev ahead : Option Line → List (Option Line)
  ahead o = o ∷ next

  pub no-newline : r ≡ None → Some MalformedLine ≡ lines_fault s
  no-newline e = stops-none v next (first ∙ ap (λ (y : Option (Bor (List ℕ))). ahead (line_before y)) e)

  -- it is the text x, of which p is said
  module _ (x : Bor (List ℕ)) (text : r ≡ Some x) (p : Option Quote) (said : p ≡ capped_row (line_in x.now)) where
    first-line : left ≡ line_in x.now ∷ next
    first-line = first ∙ ap (λ (y : Option (Bor (List ℕ))). ahead (line_before y)) text

    pub nothing_said : p ≡ None → Some MalformedLine ≡ lines_fault s
    nothing_said e = stops-none v next (first-line ∙ ap ahead (said-none (line_in x.now) (sym e ∙ said)))

    -- it is the row q
    module _ (q : Quote) (row : p ≡ Some q) where
      the-line : (l : Line) × (line_in x.now ≡ Some l) × (q ≡ capped_quote l)
      the-line = said-some q (line_in x.now) (sym row ∙ said)

      pub row-stops : (f : Fault) → Some f ≡ drawn (row_tests least q) → Some f ≡ lines_fault s
      row-stops f is = stops-row v the-line.0 next (first-line ∙ ap ahead the-line.1) f (is ∙ ap (λ (y : Quote). drawn (row_tests least y)) the-line.2)

      pub row-goes-on : drawn (row_tests least q) ≡ None → GoesOn s rows n q next
      row-goes-on z =
          let y = first-line ∙ ap ahead the-line.1 in
          let c = sym (ap (λ (k : Quote). drawn (row_tests least k)) the-line.2) ∙ z in
          subst (λ (k : Quote). GoesOn s rows n k next) (sym the-line.2)
          (record { room = room v the-line.0 next y c; high = row-high v the-line.0 next y c; on = goes_on v the-line.0 next y c })

-- ---- what the reader answers, by its parts

pub read_is : (room : ℕ) (s : List ℕ) → read_of room s ≡ ok_unless (read_fault room s) (listing (rows_read room s))
unfolding read_of
read_is _ _ = refl
