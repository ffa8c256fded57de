-- What the correction of lent rows answers, said of the arrays whose first rows were lent. Assumes nothing.
use Prim.Native.Nat.{ℕ, min, ◌≤◌}
use native.Mathlib.Omega.{arith}
use mathlib.Core.Path.{◌≡◌, sym, ◌∙◌, ap₂}
use mathlib.Core.List.{List, ◌++◌}
use Rattle.std.specs.declared.result.Result.{Result}
use lib.ListN.{length, take, length-replicate, take-append-drop}
use lib.Seq.{length-take-le}
use Rattle.lists.specs.Lists.{over}
use Rattle.market.specs.Quotes.{blank_quote}
use Rattle.market.specs.declared.fault.Fault.{Fault}
use Rattle.market.specs.declared.quote.Quote.{Quote}
use Rattle.market.specs.declared.vendor_quote.VendorQuote.{VendorQuote}
use Rattle.corrections.specs.Corrections.{rows_shown}
use Rattle.vendor.specs.Corrects.{AnswersCorrect, correct_answer}
use Rattle.vendor.proofs.Answering.{stored-part}
use Rattle.vendor.proofs.Correcting.{shown-fit}
use Rattle.arrays.specs.Arrays.{lent_of, past_lent}
use Rattle.arrays.specs.Corrects.{correct_on}
use Rattle.arrays.specs.Reads.{blank_quotes}
use Rattle.arrays.specs.declared.Lent.{Lent}

blank-long : length blank_quotes ≡ 1024
unfolding blank_quotes
blank-long = length-replicate 1024 blank_quote

pub correct_on_answers : (rows given : List VendorQuote) (n room : ℕ) (list : List Quote) (y : Result ℕ Fault) → given ≡ take (min n 1100) rows →
    AnswersCorrect given (lent_of room blank_quotes) y (lent_of room list) → past_lent room list ≡ past_lent room blank_quotes → ◌≡◌ {A = Lent (Result ℕ Fault) (List Quote)} (record { answer = y; list = list }) (correct_on rows n room)
correct_on_answers rows given n room list y is done past =
    let m = min room 1024 in
    let e = blank_quotes in
    let fits : m ≤ length e = omega (arith, blank-long) in
    let lent : length (take m e) ≡ m = length-take-le m e fits in
    let shown = rows_shown (length (take m e)) (length given) given in
    let stored : list ≡ over shown e =
    sym (take-append-drop m list)
    ∙ ap₂ (λ (k l : List Quote). k ++ l) done.table_is past
    ∙ stored-part shown e m (omega (arith, shown-fit (length (take m e)) (length given) given, lent)) fits in
    ap₂ (λ (x : Result ℕ Fault) (l : List Quote). record { answer = x; list = l }) done.answer stored
    ∙ ap₂ (λ (i : ℕ) (g : List VendorQuote). record { answer = correct_answer i g; list = over (rows_shown i (length g) g) e }) lent is
