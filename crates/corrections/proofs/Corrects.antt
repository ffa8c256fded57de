-- The table is the one that corrects: it has what the request says of it, no other list has, and no check refuses it for its rows.
-- Assumes nothing.
use Prim.Native.Nat.{ℕ, zero, suc, ◌+◌, ◌<◌, ◌≤◌}
use mathlib.Core.Path.{◌≡◌, refl, ap, ap₂, sym, subst, ◌∙◌}
use mathlib.Core.Bool.{Bool, true, false, ◌||◌, true≢false}
use mathlib.Core.List.{List, [], ◌∷◌, ◌++◌}
use Rattle.std.specs.declared.option.Option.{Option}
use Rattle.std.specs.declared.option.Option.TheVariants.{None, Some}
use native.Mathlib.Omega.{arith}
use borrow.Author.Tests.{le-ltb}
use Rattle.lists.specs.Lists.{All, span, gather, given}
use Rattle.market.specs.Faults.{drawn, unless_drawn}
use Rattle.market.specs.declared.fault.Fault.{Fault}
use Rattle.market.specs.declared.fault.Fault.TheVariants.{UnknownSymbol, BadValue, NotAscending}
use Rattle.market.specs.Quotes.{row_tests, table_tests, row_for}
use Rattle.market.specs.VendorQuotes.{quote_of, vendor_row_tests}
use Rattle.market.specs.declared.quote.Quote.{Quote}
use Rattle.market.specs.declared.vendor_quote.VendorQuote.{VendorQuote}
use Rattle.market.proofs.Faults.{none-drawn, test-fails}
use Rattle.market.proofs.Tables.{row-ascends}
use Rattle.corrections.specs.Claims.{Among, ShownIn, Corrects}
use Rattle.corrections.specs.Corrections.{supersedes, winner, corrected_of, alike, vendor_tests, correct_fault, rows_shown}
use Rattle.corrections.proofs.Members.{first-among, all-at, all-gather, among-gather, among-span}
use Rattle.corrections.proofs.NoneDrawn.{no-tests, draws-none, not-refused, one-row}
use Rattle.corrections.proofs.SameRows.{row_in, in_row, same_rows}
use Rattle.corrections.proofs.StrictOrder.{supersedes-order, true-by}
use Rattle.corrections.proofs.Winners.{Wins, winner-wins, some-wins}

-- ---- the rows of the table ascend

-- a row that draws neither 1 nor 2, before rows that ascend from it
first-ascends : (least : ℕ) (q : Quote) (l : List Quote) → drawn (row_tests 0 q) ≡ None → least ≤ q.symbol → drawn (table_tests (q.symbol + 1) l) ≡ None → drawn (table_tests least (q ∷ l)) ≡ None
first-ascends least q l e h d =
    let a = none-drawn _ UnknownSymbol _ e in
    let b = none-drawn _ BadValue _ a.1 in
    test-fails _ UnknownSymbol _ a.0 ∙ test-fails _ BadValue _ b.0 ∙ test-fails _ NotAscending _ (le-ltb q.symbol least h) ∙ d

-- what the table shows for a symbol, by the row that wins
abbrev shows : Option VendorQuote → List Quote
shows o = given o [] (λ r. quote_of r ∷ [])

abbrev at_symbol : List VendorQuote → ℕ → List Quote
at_symbol rows s = shows (winner rows s)

module _ (rows : List VendorQuote) (drew-none : drawn (vendor_tests rows) ≡ None) where
  -- a row given draws neither 1 nor 2
  sound : (r : VendorQuote) → Among r rows → drawn (vendor_row_tests r) ≡ None
  sound r h = all-at (λ x. drawn (vendor_row_tests x) ≡ None) r rows (draws-none rows drew-none).sound h

  -- from a symbol on
  span-ascends : (n i least : ℕ) → least ≤ i → drawn (table_tests least (gather (at_symbol rows) (span i n))) ≡ None
  span-ascends zero i least h = no-tests
  span-ascends (suc n) i least h = go (winner rows i) (winner-wins rows i) (λ m. span-ascends n (suc i) m)
    where
      later : List Quote
      later = gather (at_symbol rows) (span (suc i) n)

      go : (o : Option VendorQuote) → ((r : VendorQuote) → o ≡ Some r → Wins rows i r) → ((m : ℕ) → m ≤ suc i → drawn (table_tests m later) ≡ None) → drawn (table_tests least (shows o ++ later)) ≡ None
      go None f on = on least (omega arith)
      go (Some r) f on =
          let w = f r refl in
          first-ascends least (quote_of r) later (sound r w.in_rows) (omega (arith, w.of-symbol)) (on (r.symbol + 1) (omega (arith, w.of-symbol)))

  -- so no check, update or builder refuses the table for its rows
  pub checks-take-it : drawn (table_tests 0 (corrected_of rows)) ≡ None
  unfolding corrected_of
  checks-take-it = span-ascends 256 0 0 (omega arith)

-- nothing that is shown is refused: where a number is drawn, no row is
pub shown-draws-nothing : (room n : ℕ) (rows : List VendorQuote) → drawn (table_tests 0 (rows_shown room n rows)) ≡ None
unfolding rows_shown
shown-draws-nothing room n rows = go (correct_fault room n rows) refl
  where
    go : (d : Option Fault) → correct_fault room n rows ≡ d → drawn (table_tests 0 (unless_drawn d (corrected_of rows) [])) ≡ None
    go None e = checks-take-it rows (not-refused room n rows e)
    go (Some f) e = no-tests

-- ---- the table corrects

-- the row that wins, of which q is the row of the table
record WonBy (rows : List VendorQuote) (q : Quote) : Type 0 where
  of-symbol : ℕ
  row : VendorQuote
  wins : Wins rows of-symbol row
  shown-as : q ≡ quote_of row

module _ (rows : List VendorQuote) where
  all-won : All (WonBy rows) (corrected_of rows)
  unfolding corrected_of
  all-won = all-gather (at_symbol rows) (WonBy rows) (λ s. go s (winner rows s) (winner-wins rows s)) (span 0 256)
    where
      go : (s : ℕ) (o : Option VendorQuote) → ((r : VendorQuote) → o ≡ Some r → Wins rows s r) → All (WonBy rows) (shows o)
      go s None f = tt
      go s (Some r) f = (record { of-symbol = s; row = r; wins = f r refl; shown-as = refl }, tt)

  won : (q : Quote) → Among q (corrected_of rows) → WonBy rows q
  won q here = all-at (WonBy rows) q (corrected_of rows) all-won here

  -- the winner of a symbol is shown
  winner-shown : (s : ℕ) (w : VendorQuote) → s < 256 → winner rows s ≡ Some w → ShownIn (corrected_of rows) s
  unfolding corrected_of
  winner-shown s w h e =
      let here : Among (quote_of w) (at_symbol rows s) = rw e (first-among (quote_of w) []) in
      record {
        row = quote_of w;
        in_table = among-gather (at_symbol rows) (quote_of w) s (span 0 256) (among-span 256 s h) here;
        of-symbol = (winner-wins rows s w e).of-symbol;
      }

  module _ (drew-none : drawn (vendor_tests rows) ≡ None) where
    symbol-shown : (r : VendorQuote) → Among r rows → ShownIn (corrected_of rows) r.symbol
    symbol-shown r h = go (winner rows r.symbol) refl
      where
        go : (o : Option VendorQuote) → winner rows r.symbol ≡ o → ShownIn (corrected_of rows) r.symbol
        go None e = absurd (some-wins rows r h e)
        go (Some w) e = winner-shown r.symbol w (row-ascends 0 (quote_of r) (sound rows drew-none r h)).high e

    pub corrects : Corrects rows (corrected_of rows)
    corrects =
        record {
          ascends = checks-take-it rows drew-none;
          shown = symbol-shown;
          is-given = λ q here. let w = won q here in record { row = w.row; in_rows = w.wins.in_rows; shown-as = w.shown-as };
          newest = λ q here r h. all-at (λ x. supersedes x (won q here).row ≡ false) r rows (won q here).wins.newest h;
        }

-- ---- and no other table does

module _ (rows : List VendorQuote) (drew-none : drawn (vendor_tests rows) ≡ None) where
  -- two rows of a symbol of which neither supersedes the other are one
  one-newest : (a b : VendorQuote) → Among a rows → Among b rows → a.symbol ≡ b.symbol → supersedes a b ≡ false → supersedes b a ≡ false → a ≡ b
  one-newest a b h k s x y =
      let neither : (supersedes a b || supersedes b a) ≡ false = ap₂ (λ (p q : Bool). p || q) x y in
      let same : alike a b ≡ true = true-by (alike a b) (λ e. true≢false (sym (supersedes-order.total a b s e) ∙ neither)) in
      one-row a b same rows (draws-none rows drew-none).unlike h k

  -- a row of the one table is a row of the other
  same_row : (t u : List Quote) → Corrects rows t → Corrects rows u → (s : ℕ) (q : Quote) → row_for t s ≡ Some q → row_for u s ≡ Some q
  same_row t u c d s q e =
      let (here, of) = row_in t s q e in
      let a = c.is-given q here in
      let p = d.shown a.row a.in_rows in
      let b = d.is-given p.row p.in_table in
      let symbols : a.row.symbol ≡ b.row.symbol = sym p.of-symbol ∙ ap (λ (r : Quote). r.symbol) b.shown-as in
      let x = d.newest p.row p.in_table a.row a.in_rows in
      let y = c.newest q here b.row b.in_rows in
      let one = one-newest a.row b.row a.in_rows b.in_rows symbols x y in
      let same : p.row ≡ q = b.shown-as ∙ ap quote_of (sym one) ∙ sym a.shown-as in
      ap (row_for u) (sym of) ∙ subst (λ (r : Quote). row_for u r.symbol ≡ Some r) same (in_row 0 u p.row d.ascends p.in_table)

  pub corrects-once : (t u : List Quote) → Corrects rows t → Corrects rows u → t ≡ u
  corrects-once t u c d = same_rows t u c.ascends d.ascends (same_row t u c d) (same_row u t d c)
