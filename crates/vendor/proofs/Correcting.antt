-- From what the crate `corrections` answers by value to what is stated of a lent table: the rows shown fit it. Assumes nothing.
use Prim.Native.Nat.{ℕ, zero, suc, min, ◌≤◌}
use native.Mathlib.Omega.{arith}
use mathlib.Core.List.{List, [], ◌∷◌}
use Rattle.std.specs.declared.option.Option.{Option}
use Rattle.std.specs.declared.option.Option.TheVariants.{None, Some}
use Rattle.std.specs.declared.result.Result.TheVariants.{Ok, Err}
use mathlib.Core.Path.{◌≡◌, refl, ◌∙◌}
use lib.ListN.{length, take, length-append}
use Rattle.lists.specs.Lists.{over, span, gather, given}
use Rattle.market.specs.Faults.{unless_drawn}
use Rattle.market.specs.declared.fault.Fault.{Fault}
use Rattle.market.specs.VendorQuotes.{quote_of}
use Rattle.market.specs.declared.quote.Quote.{Quote}
use Rattle.market.specs.declared.table.QuoteRows.{QuoteRows}
use Rattle.market.specs.declared.vendor_quote.VendorQuote.{VendorQuote}
use Rattle.corrections.specs.Corrections.{winner, corrected_of, correct_fault, rows_shown, corrected_for}
use Rattle.corrections.proofs.Drawing.{none-corrects}
use Rattle.vendor.specs.Corrects.{AnswersCorrect}
use Rattle.vendor.proofs.Answering.{rows-within, rows-answer, rows-stored, refusal-answer, refusal-stored}

-- ---- the rows shown: at most one for each of 256 symbols, and none where the table has fewer places

one-given : {A B : Type 0} (o : Option A) (f : A → B) → length (given o [] (λ a. f a ∷ [])) ≤ 1
one-given None f = omega arith
one-given (Some a) f = omega arith

span-few : {B : Type 0} (f : ℕ → List B) → ((s : ℕ) → length (f s) ≤ 1) → (i n : ℕ) → length (gather f (span i n)) ≤ n
span-few f h i zero = omega arith
span-few f h i (suc n) = omega (arith, length-append (f i) (gather f (span (suc i) n)), h i, span-few f h (suc i) n)

corrected-few : (rows : List VendorQuote) → length (corrected_of rows) ≤ 256
unfolding corrected_of
corrected-few rows = span-few (λ s. given (winner rows s) [] (λ r. quote_of r ∷ [])) (λ s. one-given (winner rows s) quote_of) 0 256

pub shown-fit : (room n : ℕ) (rows : List VendorQuote) → length (rows_shown room n rows) ≤ min room 256
unfolding rows_shown
shown-fit room n rows = go (correct_fault room n rows) refl
  where
    go : (d : Option Fault) → correct_fault room n rows ≡ d → length (unless_drawn d (corrected_of rows) []) ≤ min room 256
    go None e = omega (arith, corrected-few rows, (none-corrects room n rows e).0)
    go (Some f) e = omega arith

-- ---- the rows given

pub shown_within : (room : ℕ) (rows : List VendorQuote) {x : QuoteRows} → Ok x ≡ corrected_for room (length rows) rows → (x.count ≤ 257) × (x.count ≤ room)
unfolding rows_shown corrected_for
shown_within room rows told = rows-within (correct_fault room (length rows) rows) (corrected_of rows) told room (shown-fit room (length rows) rows)

module _ (rows : List VendorQuote) (table : List Quote) where
  pub correct_refused : {f : Fault} → Err f ≡ corrected_for (length table) (length rows) rows → AnswersCorrect rows table (Err f) table
  unfolding rows_shown corrected_for
  correct_refused told =
      let d = correct_fault (length table) (length rows) rows in
      record { answer = refusal-answer d (corrected_of rows) told; table_is = refusal-stored d (corrected_of rows) told table }

  pub correct_answers : {x : QuoteRows} {n : ℕ} {after : List Quote} → Ok x ≡ corrected_for (length table) (length rows) rows → n ≡ x.count → after ≡ over (take x.count x.rows) table → AnswersCorrect rows table (Ok n) after
  unfolding rows_shown corrected_for
  correct_answers told is stored =
      let d = correct_fault (length table) (length rows) rows in
      record { answer = rows-answer d (corrected_of rows) told is; table_is = stored ∙ rows-stored d (corrected_of rows) told table }
