-- Bytes put in the first places of a buffer l, and what is answered of them. Assumes nothing.
use Prim.Native.Nat.{ℕ, ◌+◌, min, ◌≤◌, ◌<◌}
use native.Mathlib.Omega.{arith}
use mathlib.Core.Path.{◌≡◌, refl, sym, ◌∙◌, ap, ap₂}
use mathlib.Core.List.{List, [], ◌∷◌, ◌++◌}
use lib.ListN.{length, take, drop, set, replicate, length-append, length-take}
use lib.Dec.{ltb}
use Rattle.std.specs.declared.option.Option.{Option}
use Rattle.std.specs.declared.option.Option.TheVariants.{None, Some}
use Rattle.std.specs.Prelude.{Result, Ok, Err}
use Rattle.std.specs.Result.{result_unwrap_or}
use Rattle.lists.specs.Lists.{over}
use Rattle.lists.proofs.Over.{take-over, over-more}
use Rattle.market.specs.Faults.{number_of, number_drawn, unless_drawn, ok_unless}
use Rattle.market.specs.Quotes.{blank_quote, table_tests}
use Rattle.market.specs.declared.fault.Fault.{Fault}
use Rattle.market.specs.declared.fault.Fault.TheVariants.{ListTooShort}
use Rattle.market.proofs.Faults.{unless-none, test-fails}
use Rattle.numerals.specs.Numerals.{digits, Spells}
use Rattle.numerals.specs.declared.spelled.Spelled.{Spelled}
use Rattle.lines.specs.Lines.{text_of}
use Rattle.lines.specs.Reading.{read_fault, rows_read}
use Rattle.lines.specs.Writing.{write_fault, text_written}
use Rattle.lines.proofs.Theorems.{one-text, rows_fit, read-sound, sound-text}
use Rattle.vendor.specs.Answers.{AnswersWrite, lines_answer, read_on}
use Rattle.vendor.proofs.Answering.{value-told, refusal-told}
use Rattle.vendor.specs.declared.on_arrays.TableRead.{TableRead}
use Rattle.quotes.specs.Printed.{number_line, printed_of, SamePrinted}

-- ---- a number

-- the digits are put, and the newline behind them
pub line-put : (n : ℕ) (x : Spelled) (l put : List ℕ) → Spells (digits n) x → length x.bytes ≡ 20 → 20 < length l → put ≡ take x.count x.bytes →
    (x.count + 1 ≡ length (number_line n)) × (set (put ++ drop x.count l) x.count 10 ≡ over (number_line n) l)
line-put n x l put is long room same = (
  ap (λ (k : ℕ). k + 1) is.count ∙ sym (length-append (digits n) (10 ∷ [])),
  ap (λ (z : List ℕ). set z x.count 10) (ap₂ (λ (z : List ℕ) (k : ℕ). z ++ drop k l) (same ∙ is.bytes) is.count)
      ∙ over-more (digits n) l x.count 10 is.count (omega (arith, is.count, room, ap length is.bytes, length-take x.count x.bytes, long)),
)

-- ---- what is answered

-- r counts the bytes that were put
pub counts-put : (k l after : List ℕ) (r : ℕ) → r ≡ length k → after ≡ over k l → ((r ≤ length after) × (r ≡ length (take r after))) × (take r after ≡ k)
counts-put k l after r count is =
    let taken : take r after ≡ k = ap (take r) is ∙ take-over k l r (sym count) in
    ((omega (arith, count, ap length is, length-append k (drop (length k) l)), count ∙ ap length (sym taken)), taken)

-- the number that is drawn, where one is; else the text of the rows that are read
pub prints-number : (s : List ℕ) (f : Fault) → read_fault 256 s ≡ Some f → number_line (number_of f) ≡ printed_of s
unfolding printed_of
prints-number s f e = ap (λ (d : Option Fault). unless_drawn d (text_of (rows_read 256 s)) (number_line (number_drawn d))) (sym e)

pub prints-rows : (s : List ℕ) → read_fault 256 s ≡ None → text_of (rows_read 256 s) ≡ printed_of s
unfolding printed_of
prints-rows s none = unless-none (read_fault 256 s) (text_of (rows_read 256 s)) (number_line (number_drawn (read_fault 256 s))) none

-- a text that draws no number is written as it is
pub same-printed : SamePrinted
same-printed s none = sym (prints-rows s none) ∙ one-text 256 s none

-- writing the rows that are read draws nothing
sound-write : (s : List ℕ) → write_fault 15104 (rows_read 256 s) ≡ None
unfolding write_fault
sound-write s = test-fails (ltb 15104 15104) ListTooShort (table_tests 0 (rows_read 256 s)) refl ∙ read-sound 256 s

module _ (s : List ℕ) (x : TableRead) (out after : List ℕ) (is : x ≡ read_on s 256) where
  answer-is : x.answer ≡ lines_answer 256 s
  answer-is = ap (λ (z : TableRead). z.answer) is

  -- they are written whole
  pub rows-printed : (rows n : ℕ) (y : Result ℕ Fault) → length out ≡ 15104 → x.answer ≡ Ok rows → AnswersWrite (take (min rows 257) x.rows) out y after → n ≡ result_unwrap_or y 0 →
      ((n ≤ length after) × (n ≡ length (take n after))) × (take n after ≡ printed_of s)
  rows-printed rows n y long e done count =
      let k = rows_read 256 s in
      let told = value-told (read_fault 256 s) (length k) (sym e ∙ answer-is) in
      let few : min rows 257 ≡ length k = omega (arith, told.1, rows_fit 256 s) in
      let read : take (min rows 257) x.rows ≡ k = ap (λ (z : TableRead). take (min rows 257) z.rows) is ∙ take-over k (replicate 257 blank_quote) (min rows 257) (sym few) in
      let text : text_written (length out) (take (min rows 257) x.rows) ≡ text_of k = ap₂ text_written long read ∙ sound-text 256 15104 s (omega arith) in
      let none : write_fault (length out) (take (min rows 257) x.rows) ≡ None = ap₂ write_fault long read ∙ sound-write s in
      let written : y ≡ Ok (length (text_of k)) = done.answer ∙ ap₂ (λ (d : Option Fault) (t : List ℕ). ok_unless d (length t)) none text in
      let put = counts-put (text_of k) out after n (count ∙ ap (λ (r : Result ℕ Fault). result_unwrap_or r 0) written) (done.buffer-is ∙ ap (λ (t : List ℕ). over t out) text) in
      (put.0, put.1 ∙ prints-rows s told.0)

  pub number-printed : (f : Fault) (m n : ℕ) → x.answer ≡ Err f → m ≡ number_of f → (n ≡ length (number_line m)) × (after ≡ over (number_line m) out) →
      ((n ≤ length after) × (n ≡ length (take n after))) × (take n after ≡ printed_of s)
  number-printed f m n e number put =
      let told = refusal-told (read_fault 256 s) (length (rows_read 256 s)) (sym e ∙ answer-is) in
      let all = counts-put (number_line m) out after n put.0 put.1 in
      (all.0, all.1 ∙ ap number_line number ∙ prints-number s f told)
