-- What the rows draw, test by test, and what it leaves of the table. Assumes nothing.
use Prim.Native.Nat.{ℕ, zero, suc, ◌+◌, ◌≤◌, ◌<◌}
use native.Mathlib.Omega.{arith}
use mathlib.Core.Bool.{Bool, true, false}
use mathlib.Core.List.{List, [], ◌∷◌, ◌++◌}
use Rattle.std.specs.declared.option.Option.{Option}
use Rattle.std.specs.declared.option.Option.TheVariants.{None, Some}
use Rattle.std.specs.declared.result.Result.TheVariants.{Ok, Err}
use Rattle.std.specs.Bool.{then_some}
use mathlib.Core.Path.{◌≡◌, refl, ap, ap₂, sym, ◌∙◌}
use borrow.Author.Tests.{lt-ltb, le-ltb, ltb-false}
use lib.ListN.{length}
use Rattle.lists.specs.Lists.{span, gather, given}
use Rattle.market.specs.Faults.{drawn, first_drawn, ◌draws◌}
use Rattle.market.specs.declared.fault.Fault.{Fault}
use Rattle.market.specs.declared.fault.Fault.TheVariants.{ListTooShort, AlikeRows, TooManyRows}
use Rattle.market.specs.Quotes.{listing}
use Rattle.market.specs.VendorQuotes.{quote_of, vendor_row_tests}
use Rattle.market.specs.declared.quote.Quote.{Quote}
use Rattle.market.specs.declared.vendor_quote.VendorQuote.{VendorQuote}
use Rattle.market.proofs.Faults.{drawn-append, none-drawn, test-holds, test-fails}
use Rattle.corrections.specs.Corrections.{winner, corrected_of, some_alike, correct_fault, rows_shown, corrected_for}
use Rattle.corrections.specs.Places.{stands_at, KeepsNewest, listed_from}
use Rattle.corrections.proofs.Finding.{rows_drew}

-- ---- the tests in their order

-- where no number is drawn the table has 256 places, and at most 1,024 rows are given
pub none-corrects : (room n : ℕ) (rows : List VendorQuote) → correct_fault room n rows ≡ None → (256 ≤ room) × (n ≤ 1024)
unfolding correct_fault
none-corrects room n rows e =
    let a = none-drawn _ ListTooShort _ e in
    let b = none-drawn _ TooManyRows _ a.1 in
    (ltb-false room 256 a.0, ltb-false 1024 n b.0)

-- the last test
alike-drew : (b : Bool) → then_some b AlikeRows ≡ drawn ((b draws AlikeRows) ∷ [])
unfolding drawn
alike-drew true = refl
alike-drew false = refl

module _ (room n : ℕ) (rows : List VendorQuote) where
  pub short_table : room < 256 → Some ListTooShort ≡ correct_fault room n rows
  unfolding correct_fault
  short_table h = sym (test-holds _ ListTooShort _ (lt-ltb room 256 h))

  module _ (long : 256 ≤ room) where
    pub many_rows : 1024 < n → Some TooManyRows ≡ correct_fault room n rows
    unfolding correct_fault
    many_rows h = sym (test-fails _ ListTooShort _ (le-ltb room 256 long) ∙ test-holds _ TooManyRows _ (lt-ltb 1024 n h))

    module _ (few : n ≤ 1024) where
      rows-first : correct_fault room n rows ≡ first_drawn (rows_drew rows) (drawn ((some_alike rows draws AlikeRows) ∷ []))
      unfolding correct_fault
      rows-first =
          test-fails _ ListTooShort _ (le-ltb room 256 long)
          ∙ test-fails _ TooManyRows _ (le-ltb 1024 n few)
          ∙ drawn-append (gather vendor_row_tests rows) ((some_alike rows draws AlikeRows) ∷ [])

      pub row_drew : (f : Fault) → rows_drew rows ≡ Some f → Some f ≡ correct_fault room n rows
      row_drew f d = sym (rows-first ∙ ap (λ (o : Option Fault). first_drawn o (drawn ((some_alike rows draws AlikeRows) ∷ []))) d)

      pub then_alike : rows_drew rows ≡ None → then_some (some_alike rows) AlikeRows ≡ correct_fault room n rows
      then_alike d = alike-drew (some_alike rows) ∙ sym (rows-first ∙ ap (λ (o : Option Fault). first_drawn o (drawn ((some_alike rows draws AlikeRows) ∷ []))) d)

-- ---- the rows that stand are those that win

same-gather : (f g : ℕ → List Quote) (i n m : ℕ) → ((s : ℕ) → s < m → f s ≡ g s) → i + n ≤ m → gather f (span i n) ≡ gather g (span i n)
same-gather f g i zero m e h = refl
same-gather f g i (suc n) m e h = ap₂ (λ (x y : List Quote). x ++ y) (e i (omega arith)) (same-gather f g (suc i) n m e (omega arith))

pub listed-wins : (rows : List VendorQuote) (w : List (Option VendorQuote)) → KeepsNewest rows w → listed_from w ≡ corrected_of rows
unfolding listed_from corrected_of
listed-wins rows w k =
    same-gather (λ s. given (stands_at w s) [] (λ r. quote_of r ∷ [])) (λ s. given (winner rows s) [] (λ r. quote_of r ∷ [])) 0 256 256
    (λ s h. ap (λ (o : Option VendorQuote). given o [] (λ r. quote_of r ∷ [])) (k.wins s h)) (omega arith)

none-corrected : corrected_of [] ≡ []
unfolding corrected_of
none-corrected = refl

-- ---- what is answered

module _ (room : ℕ) (rows : List VendorQuote) where
  pub refused : (f : Fault) → correct_fault room (length rows) rows ≡ Some f → Err f ≡ corrected_for room (length rows) rows
  unfolding corrected_for
  refused f e = rw e refl

  pub corrected_is : (w : List (Option VendorQuote)) → correct_fault room (length rows) rows ≡ None → KeepsNewest rows w → Ok (listing (listed_from w)) ≡ corrected_for room (length rows) rows
  unfolding rows_shown corrected_for
  corrected_is w e keeps = rw e (ap (λ (l : List Quote). Ok (listing l)) (listed-wins rows w keeps))
