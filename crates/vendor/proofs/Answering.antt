-- From what a call by value answers, rows or a refusal, to what is stated of a lent table in which the rows are stored; from what the crate `lines` answers to what
-- is stated of lent tables and buffers, and of arrays whose first rows are lent. Assumes nothing.
use Prim.Native.Nat.{ℕ, min, ◌≤◌}
use native.Mathlib.Omega.{arith}
use mathlib.Core.Path.{◌≡◌, refl, sym, ◌∙◌, ap, ap₂, subst}
use mathlib.Core.List.{List, [], ◌++◌, append_assoc}
use lib.ListN.{length, take, drop, replicate, take-append-drop}
use lib.Seq.{length-take-le, drop-append-le}
use Rattle.std.specs.declared.option.Option.{Option}
use Rattle.std.specs.declared.option.Option.TheVariants.{None, Some}
use Rattle.std.specs.declared.result.Result.{Result}
use Rattle.std.specs.declared.result.Result.TheVariants.{Ok, Err}
use Rattle.std.specs.Result.{result_unwrap_or, result_err}
use Rattle.std.proofs.lemmas.Option.{none-some}
use Rattle.lists.specs.Lists.{over}
use Rattle.lists.proofs.Over.{take-over}
use Rattle.market.specs.Faults.{unless_drawn, ok_unless}
use Rattle.market.specs.declared.fault.Fault.{Fault}
use Rattle.market.specs.Quotes.{blank_quote, listing, table_of}
use Rattle.market.specs.declared.quote.Quote.{Quote}
use Rattle.market.specs.declared.table.Table.{Table}
use Rattle.market.specs.declared.table.QuoteRows.{QuoteRows}
use Rattle.lines.specs.Reading.{read_fault, rows_read, read_of}
use Rattle.lines.specs.Writing.{WritesTable, table_fault, table_written, write_fault, text_written}
use Rattle.lines.proofs.Tables.{table-fault, table-written}
use Rattle.lines.proofs.Theorems.{rows_fit}
use Rattle.vendor.specs.Answers.{AnswersRead, AnswersWrite, lines_answer, read_on}
use Rattle.vendor.specs.declared.on_arrays.TableRead.{TableRead}

-- ---- a value, or a refusal

pub refusal-is : {A : Type 0} (d : Option Fault) (a : A) → result_err (ok_unless d a) ≡ d
refusal-is None a = refl
refusal-is (Some f) a = refl

-- a value is told where nothing is drawn, and it is that one
pub value-told : {A : Type 0} (d : Option Fault) (a : A) {x : A} → Ok x ≡ ok_unless d a → (d ≡ None) × (x ≡ a)
value-told None a e = (refl, ap (λ r. result_unwrap_or r a) e)
value-told (Some f) a e = absurd (none-some f (ap result_err e))

-- a refusal is told where it is drawn
pub refusal-told : {A : Type 0} (d : Option Fault) (a : A) {f : Fault} → Err f ≡ ok_unless d a → d ≡ Some f
refusal-told d a e = sym (refusal-is d a) ∙ sym (ap result_err e)

-- ---- rows where nothing is drawn, stored in a lent table

module _ (d : Option Fault) (l : List Quote) where
  abbrev pub shown : List Quote
  shown = unless_drawn d l []

  -- how many they are, or 0
  pub shown-count : result_unwrap_or (ok_unless d (length shown)) 0 ≡ length shown
  shown-count = go d
    where
      go : (k : Option Fault) → result_unwrap_or (ok_unless k (length (unless_drawn k l []))) 0 ≡ length (unless_drawn k l [])
      go None = refl
      go (Some f) = refl

  -- a refusal leaves the table as it was
  module _ {f : Fault} (told : Err f ≡ ok_unless d (listing shown)) where
    pub refusal-answer : Err f ≡ ok_unless d (length shown)
    refusal-answer = rw (refusal-told d (listing shown) told) refl

    pub refusal-stored : (table : List Quote) → table ≡ over shown table
    refusal-stored table = rw (refusal-told d (listing shown) told) refl

  module _ {x : QuoteRows} (told : Ok x ≡ ok_unless d (listing shown)) where
    -- they fit the array, and a table of `room` rows
    pub rows-within : (room : ℕ) → length shown ≤ min room 256 → (x.count ≤ 257) × (x.count ≤ room)
    rows-within room few = rw (value-told d (listing shown) told).1 (omega (arith, few), omega (arith, few))

    pub rows-answer : {n : ℕ} → n ≡ x.count → Ok n ≡ ok_unless d (length shown)
    rows-answer is = let t = value-told d (listing shown) told in ap Ok (is ∙ ap (λ (y : QuoteRows). y.count) t.1) ∙ sym (ap (λ (o : Option Fault). ok_unless o (length shown)) t.0)

    pub rows-stored : (table : List Quote) → over (take x.count x.rows) table ≡ over shown table
    rows-stored table = rw (value-told d (listing shown) told).1 (ap (λ (k : List Quote). over k table) (take-over shown (replicate 257 blank_quote) (length shown) refl))

-- ---- the text s, read for a table of `room` rows

pub read_within : (s : List ℕ) (room : ℕ) {x : QuoteRows} → Ok x ≡ read_of room s → (x.count ≤ 257) × (x.count ≤ room)
unfolding rows_read read_of
read_within s room told = rows-within (read_fault room s) _ told room (rows_fit room s)

module _ (s : List ℕ) (table : List Quote) where
  pub read_refused : {f : Fault} → Err f ≡ read_of (length table) s → AnswersRead s table (Err f) table
  unfolding rows_read read_of
  read_refused told =
      let d = read_fault (length table) s in
      record { answer = refusal-answer d _ told; table_is = refusal-stored d _ told table }

  pub read_answers : {x : QuoteRows} {n : ℕ} {after : List Quote} → Ok x ≡ read_of (length table) s → n ≡ x.count → after ≡ over (take x.count x.rows) table → AnswersRead s table (Ok n) after
  unfolding rows_read read_of
  read_answers told is stored =
      let d = read_fault (length table) s in
      record { answer = rows-answer d _ told is; table_is = stored ∙ rows-stored d _ told table }

-- ---- the text of a table

pub write_answers : (table : List Quote) (t : Table) (out after : List ℕ) (z : Result ℕ Fault) → t ≡ table_of table → WritesTable t out z after → AnswersWrite table out z after
write_answers table t out after z is-t w =
    let fault : table_fault (length out) t ≡ write_fault (length out) table = ap (table_fault (length out)) is-t ∙ table-fault (length out) table in
    let text : table_written (length out) t ≡ text_written (length out) table = ap (table_written (length out)) is-t ∙ table-written (length out) table in
    record {
      answer = w.answer ∙ ap₂ (λ (d : Option Fault) (k : List ℕ). ok_unless d (length k)) fault text;
      buffer-is = w.buffer ∙ ap (λ (k : List ℕ). over k out) text;
    }

-- the first rows of an array, of which the first n or all count
pub write_on_answers : (rows : List Quote) (n k : ℕ) (out after : List ℕ) (z : Result ℕ Fault) → k ≡ min n 257 → AnswersWrite (take k rows) out z after → AnswersWrite (take (min n 257) rows) out z after
write_on_answers rows n k out after z is done = subst (λ (i : ℕ). AnswersWrite (take i rows) out z after) is done

-- ---- rows that were stored in the first n places of a list stand in the whole list

pub stored-part : {A : Type 0} (k l : List A) (n : ℕ) → length k ≤ n → n ≤ length l → over k (take n l) ++ drop n l ≡ over k l
stored-part {A} k l n short fits =
    append_assoc k (drop (length k) (take n l)) (drop n l)
    ∙ ap (λ (z : List A). k ++ z) (sym (drop-append-le (length k) (take n l) (drop n l) (omega (arith, short, length-take-le n l fits))) ∙ ap (drop (length k)) (take-append-drop n l))

-- the first n rows of a blank array e are lent
read-at : List ℕ → ℕ → TableRead
read-at s n = record { answer = lines_answer n s; rows = over (rows_read n s) (replicate 257 blank_quote) }

pub read_on_answers : (s : List ℕ) (room : ℕ) {n : ℕ} {e after : List Quote} {y : Result ℕ Fault} → n ≡ min room 257 → e ≡ replicate 257 blank_quote → length e ≡ 257 → AnswersRead s (take n e) y after →
    ◌≡◌ {A = TableRead} (record { answer = y; rows = after ++ drop n e }) (read_on s room)
unfolding read-at
read_on_answers s room {n} {e} {after} {y} is-n is-e long done =
    let fits : n ≤ length e = omega (arith, is-n, long) in
    let m = length (take n e) in
    let lent : m ≡ n = length-take-le n e fits in
    let rows : after ++ drop n e ≡ over (rows_read m s) (replicate 257 blank_quote) =
    ap (λ (l : List Quote). l ++ drop n e) done.table_is
    ∙ stored-part (rows_read m s) e n (omega (arith, rows_fit m s, lent)) fits
    ∙ ap (over (rows_read m s)) is-e in
    let here : ◌≡◌ {A = TableRead} (record { answer = y; rows = after ++ drop n e }) (read-at s m)
    = ap₂ (λ (x : Result ℕ Fault) (l : List Quote). record { answer = x; rows = l }) done.answer rows in
    here ∙ ap (read-at s) (lent ∙ is-n)
