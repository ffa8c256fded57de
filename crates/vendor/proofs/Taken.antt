-- What `correct_quotes` leaves in the table's first places: it is the table that request 5 asks for, and no check, update or builder refuses it for its rows.
-- Assumes nothing.
use Rattle.std.specs.declared.option.Option.{Option}
use Rattle.std.specs.declared.option.Option.TheVariants.{None}
use Rattle.std.specs.declared.result.Result.{Result}
use Rattle.std.specs.declared.result.Result.TheVariants.{Ok}
use Rattle.std.specs.Result.{result_unwrap_or}
use Prim.Native.Nat.{ℕ}
use mathlib.Core.Bool.{true, false}
use mathlib.Core.List.{List, [], ◌∷◌, ◌++◌, append_assoc}
use mathlib.Core.Path.{◌≡◌, refl, ap, ap₂, sym, subst, ◌∙◌}
use lib.ListN.{length, take}
use Rattle.lists.proofs.Over.{take-over}
use Rattle.market.specs.Faults.{Test, ◌draws◌, drawn, first_drawn}
use Rattle.market.specs.declared.fault.Fault.{Fault}
use Rattle.market.specs.Quotes.{table_tests}
use Rattle.market.specs.Weights.{weight_rows}
use Rattle.market.specs.declared.quote.Quote.{Quote}
use Rattle.market.specs.declared.vendor_quote.VendorQuote.{VendorQuote}
use Rattle.market.proofs.Faults.{drawn-append, unless-none}
use Rattle.market.proofs.Tables.{table-fault}
use Rattle.corrections.specs.Claims.{Corrects}
use Rattle.corrections.specs.Corrections.{corrected_of, correct_fault, rows_shown}
use Rattle.corrections.proofs.Corrects.{corrects, shown-draws-nothing}
use Rattle.corrections.proofs.NoneDrawn.{no-tests, not-refused}
use Rattle.broker.specs.Build.{build_fault, build_of}
use Rattle.broker.specs.Lent.{check_for, update_for}
use Rattle.vendor.specs.Corrects.{AnswersCorrect}
use Rattle.vendor.specs.Taken.{TakesTable}
use Rattle.vendor.proofs.Answering.{refusal-is, value-told, shown-count}

-- ---- tests that draw nothing, among others

behind : (x : Test) (l m : List Test) → drawn l ≡ drawn m → drawn (x ∷ l) ≡ drawn (x ∷ m)
unfolding drawn
behind (true draws f) l m e = refl
behind (false draws f) l m e = e

passes : (k l m : List Test) → drawn l ≡ drawn m → drawn (k ++ l) ≡ drawn (k ++ m)
passes k l m e = drawn-append k l ∙ ap (first_drawn (drawn k)) e ∙ sym (drawn-append k m)

left_out : (k l : List Test) → drawn k ≡ None → drawn (k ++ l) ≡ drawn l
left_out k l e = drawn-append k l ∙ ap (λ (d : Option Fault). first_drawn d (drawn l)) e

-- ---- a table that draws no number

module _ (t : List Quote) (none : drawn (table_tests 0 t) ≡ None) where
  -- before other tests, and behind those of another table
  first-table : (l : List Test) → drawn (table_tests 0 t ++ l) ≡ drawn l
  first-table l = left_out (table_tests 0 t) l none

  second-table : (f : List Quote) (l : List Test) → drawn ((table_tests 0 f ++ table_tests 0 t) ++ l) ≡ drawn ((table_tests 0 f ++ []) ++ l)
  second-table f l =
      ap drawn (append_assoc (table_tests 0 f) (table_tests 0 t) l)
      ∙ passes (table_tests 0 f) (table_tests 0 t ++ l) l (first-table l)
      ∙ sym (ap drawn (append_assoc (table_tests 0 f) [] l))

  table_taken : TakesTable t
  unfolding check_for update_for build_of
  table_taken =
      record {
        tradable = λ b f log. behind _ _ _ (first-table (table_tests 0 f));
        fetched = λ b f log. behind _ _ _ (passes (table_tests 0 f) (table_tests 0 t) [] (none ∙ sym no-tests));
        update-tradable = λ b f w e log.
            behind _ _ _ (behind _ _ _ (ap drawn (append_assoc (table_tests 0 t) (table_tests 0 f) (weight_rows 0 w)) ∙ first-table (table_tests 0 f ++ weight_rows 0 w)));
        update-fetched = λ b f w e log. behind _ _ _ (behind _ _ _ (second-table f (weight_rows 0 w)));
        first = λ costs lot log. refusal-is _ _ ∙ ap (build_fault costs lot) (table-fault t ∙ none ∙ sym (table-fault [] ∙ no-tests)) ∙ sym (refusal-is _ _);
      }

-- ---- the rows in the table's first places, as many as are answered; none where a refusal is

module _ (rows : List VendorQuote) (table : List Quote) (r : Result ℕ Fault) (after : List Quote) (a : AnswersCorrect rows table r after) where
  -- they are those that are shown
  first_rows : take (result_unwrap_or r 0) after ≡ rows_shown (length table) (length rows) rows
  unfolding rows_shown
  first_rows =
      let l = rows_shown (length table) (length rows) rows in
      ap₂ (λ (k : Result ℕ Fault) (m : List Quote). take (result_unwrap_or k 0) m) a.answer a.table_is
      ∙ take-over l table _ (sym (shown-count (correct_fault (length table) (length rows) rows) (corrected_of rows)))

  -- lent on to a check, an update or the builder, they draw no number
  pub takes-corrected : TakesTable (take (result_unwrap_or r 0) after)
  takes-corrected =
      table_taken (take (result_unwrap_or r 0) after) (ap (λ (l : List Quote). drawn (table_tests 0 l)) first_rows ∙ shown-draws-nothing (length table) (length rows) rows)

  -- where no number is drawn they are the table that the request asks for
  pub corrects-answer : (n : ℕ) → r ≡ Ok n → Corrects rows (take n after)
  unfolding rows_shown
  corrects-answer n e =
      let none = (value-told (correct_fault (length table) (length rows) rows) _ (sym e ∙ a.answer)).0 in
      let shown : take n after ≡ rows_shown (length table) (length rows) rows = ap (λ (k : Result ℕ Fault). take (result_unwrap_or k 0) after) (sym e) ∙ first_rows in
      subst (Corrects rows) (unless-none (correct_fault (length table) (length rows) rows) (corrected_of rows) [] none ∙ sym shown)
      (corrects rows (not-refused (length table) (length rows) rows none))
