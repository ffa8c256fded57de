-- Rows that ascend by symbol, of any type: what they draw, which of them are good, that 257 of them are enough, and a loop over them.
use Prim.Native.Nat.{ℕ, zero, suc, ◌+◌, ◌<◌, ◌≤◌}
use mathlib.Core.Path.{◌≡◌, refl, ap, sym, ◌∙◌}
use mathlib.Core.Bool.{Bool}
use mathlib.Core.List.{List, [], ◌∷◌, ◌++◌, append_assoc, append-nil}
use native.Mathlib.Omega.{arith}
use native.Mathlib.Numerals.{add-one}
use lib.ListN.{length, take, drop, get_or, drop_of_length-le}
use lib.Seq.{drop-cons, take-suc, length-take-le}
use borrow.Author.Tests.{ltb-false}
use Rattle.lists.specs.Lists.{All}
use Rattle.std.specs.declared.option.Option.{Option}
use Rattle.std.specs.declared.option.Option.TheVariants.{None, Some}
use Rattle.market.specs.declared.fault.Fault.{Fault}
use Rattle.market.specs.declared.fault.Fault.TheVariants.{UnknownSymbol, BadValue, NotAscending}
use Rattle.market.specs.Faults.{Test, drawn, unless_drawn, first_drawn}
pub use Rattle.market.specs.Rows.{Ascends, RowLaws}
use Rattle.market.specs.Rows.{supplier_tests, rows_tests, good_rows}
use Rattle.market.proofs.Faults.{drawn-append, append-none, none-drawn, unless-some, unless-none, first-same, first-none-is, first-some-is}

-- ---- one row

pub tests-ascend : (least symbol : ℕ) (sound : Bool) → drawn (supplier_tests least symbol sound) ≡ None → Ascends least symbol
tests-ascend least symbol sound e =
    let a = none-drawn _ UnknownSymbol _ e in
    let b = none-drawn _ BadValue _ a.1 in
    let c = none-drawn _ NotAscending _ b.1 in
    let x = ltb-false 255 symbol a.0 in
    record { low = ltb-false symbol least c.0; high = omega arith }

-- tests that are the supplier's have them
pub supplier-laws : {A : Type 0} (symbol_of : A → ℕ) (sound : A → Bool) → RowLaws (λ least r. supplier_tests least (symbol_of r) (sound r)) symbol_of
supplier-laws symbol_of sound =
    record { ascends = λ least r. tests-ascend least (symbol_of r) (sound r) }

-- only where no number is drawn does it matter what is given then
pub unless-same : {A : Type 0} (d : Option Fault) (x y z : A) → (d ≡ None → x ≡ y) → unless_drawn d x z ≡ unless_drawn d y z
unless-same None x y z e = e refl
unless-same (Some f) x y z e = refl

-- ---- rows in order

first-by : {A : Type 0} (d : Option Fault) (r : A) (l k : List A) → take (length k) l ≡ k → take (length (unless_drawn d (r ∷ k) [])) (r ∷ l) ≡ unless_drawn d (r ∷ k) []
first-by None r l k e = ap (λ m. r ∷ m) e
first-by (Some f) r l k e = refl

-- the good rows are the first ones
pub good_first : {A : Type 0} (tests : ℕ → A → List Test) (symbol_of : A → ℕ) (least : ℕ) (l : List A) → take (length (good_rows tests symbol_of least l)) l ≡ good_rows tests symbol_of least l
unfolding good_rows
good_first tests symbol_of least [] = refl
good_first tests symbol_of least (r ∷ l) = first-by (drawn (tests least r)) r l (good_rows tests symbol_of (symbol_of r + 1) l) (good_first tests symbol_of (symbol_of r + 1) l)

module _ {A : Type 0} (tests : ℕ → A → List Test) (symbol_of : A → ℕ) (laws : RowLaws tests symbol_of) where
  abbrev drew : ℕ → List A → Option Fault
  drew least l = drawn (rows_tests tests symbol_of least l)

  abbrev good : ℕ → List A → List A
  good least l = good_rows tests symbol_of least l

  none-drew : (least : ℕ) → drew least [] ≡ None
  unfolding drawn
  none-drew least = refl

  none-good : (least : ℕ) → good least [] ≡ []
  unfolding good_rows
  none-good least = refl

  module _ (least : ℕ) (r : A) (l : List A) where
    rows-drew : drew least (r ∷ l) ≡ first_drawn (drawn (tests least r)) (drew (symbol_of r + 1) l)
    rows-drew = drawn-append (tests least r) (rows_tests tests symbol_of (symbol_of r + 1) l)

    rows-good : good least (r ∷ l) ≡ unless_drawn (drawn (tests least r)) (r ∷ good (symbol_of r + 1) l) []
    unfolding good_rows
    rows-good = refl

    -- where the rows draw nothing, the first does not, nor do the others
    pub rows_none : drew least (r ∷ l) ≡ None → (drawn (tests least r) ≡ None) × (drew (symbol_of r + 1) l ≡ None)
    rows_none e = append-none (tests least r) (rows_tests tests symbol_of (symbol_of r + 1) l) e

  -- where no number is drawn all rows are good
  pub good-all : (least : ℕ) (l : List A) → drew least l ≡ None → good least l ≡ l
  good-all least [] e = none-good least
  good-all least (r ∷ l) e =
      let d = rows_none least r l e in
      rows-good least r l ∙ sym (unless-none _ _ [] d.0) ∙ ap (λ (k : List A). r ∷ k) (good-all (symbol_of r + 1) l d.1)

  few-by : (least : ℕ) (d : Option Fault) (r : A) (l : List A) → least ≤ 256 → (d ≡ None → least + suc (length l) ≤ 256) → least + length (unless_drawn d (r ∷ l) []) ≤ 256
  few-by least None r l h g = g refl
  few-by least (Some f) r l h g = omega arith

  -- at most 256 rows are good
  pub good-few : (least : ℕ) (l : List A) → least ≤ 256 → least + length (good least l) ≤ 256
  unfolding good_rows
  good-few least [] h = omega arith
  good-few least (r ∷ l) h =
      few-by least (drawn (tests least r)) r (good (symbol_of r + 1) l) h
      (λ e.
      let a = laws.ascends least r e in
      omega (arith, a.low, a.high, good-few (symbol_of r + 1) l (omega (arith, a.high))))

  -- at most k rows ascend from a bound of 256 - k on, so the row after them draws a number
  module _ (least : ℕ) (r : A) (l m : List A) where
    same-drew : (drawn (tests least r) ≡ None → drew (symbol_of r + 1) l ≡ drew (symbol_of r + 1) m) → drew least (r ∷ l) ≡ drew least (r ∷ m)
    same-drew e = rows-drew least r l ∙ first-same (drawn (tests least r)) _ _ e ∙ sym (rows-drew least r m)

    same_good : (drawn (tests least r) ≡ None → good (symbol_of r + 1) l ≡ good (symbol_of r + 1) m) → good least (r ∷ l) ≡ good least (r ∷ m)
    same_good e =
        rows-good least r l
        ∙ unless-same (drawn (tests least r)) (r ∷ good (symbol_of r + 1) l) (r ∷ good (symbol_of r + 1) m) [] (λ z. ap (λ (k : List A). r ∷ k) (e z))
        ∙ sym (rows-good least r m)

  drew-most : (least : ℕ) (l : List A) (k : ℕ) → 256 ≤ least + k → drew least (take (suc k) l) ≡ drew least l
  drew-most least [] k h = refl
  drew-most least (r ∷ l) zero h = same-drew least r [] l (λ e. let a = laws.ascends least r e in absurd (omega (arith, a.low, a.high)))
  drew-most least (r ∷ l) (suc k) h =
      same-drew least r (take (suc k) l) l (λ e. let a = laws.ascends least r e in drew-most (symbol_of r + 1) l k (omega (arith, a.low)))

  good-most : (least : ℕ) (l : List A) (k : ℕ) → 256 ≤ least + k → good least (take (suc k) l) ≡ good least l
  good-most least [] k h = refl
  good-most least (r ∷ l) zero h = same_good least r [] l (λ e. let a = laws.ascends least r e in absurd (omega (arith, a.low, a.high)))
  good-most least (r ∷ l) (suc k) h =
      same_good least r (take (suc k) l) l (λ e. let a = laws.ascends least r e in good-most (symbol_of r + 1) l k (omega (arith, a.low)))

  -- no row after the 257th counts
  pub most-drew : (l : List A) → drew 0 (take 257 l) ≡ drew 0 l
  most-drew l = drew-most 0 l 256 (omega arith)

  pub most-good : (l : List A) → good 0 (take 257 l) ≡ good 0 l
  most-good l = good-most 0 l 256 (omega arith)

-- ---- a loop over rows: the i rows so far are good, and the rest gives what the whole gives

pub record RowsAt {A : Type 0} (tests : ℕ → A → List Test) (symbol_of : A → ℕ) (rows : List A) (least i : ℕ) : Type 0 where
  pub within : i ≤ length rows
  pub read : take i rows ++ good_rows tests symbol_of least (drop i rows) ≡ good_rows tests symbol_of 0 rows
  pub drew : drawn (rows_tests tests symbol_of least (drop i rows)) ≡ drawn (rows_tests tests symbol_of 0 rows)

-- where it is left: the i rows so far are the good ones, and `fault` is what the rows draw
pub record Left {A : Type 0} (tests : ℕ → A → List Test) (symbol_of : A → ℕ) (rows : List A) (fault : Option Fault) (i : ℕ) : Type 0 where
  pub good : take i rows ≡ good_rows tests symbol_of 0 rows
  pub count : i ≡ length (good_rows tests symbol_of 0 rows)
  pub fault-is : fault ≡ drawn (rows_tests tests symbol_of 0 rows)

pub rows_start : {A : Type 0} (tests : ℕ → A → List Test) (symbol_of : A → ℕ) (rows : List A) → RowsAt tests symbol_of rows 0 0
rows_start tests symbol_of rows = record { within = omega arith; read = refl; drew = refl }

module _ {A : Type 0} {tests : ℕ → A → List Test} {symbol_of : A → ℕ} (laws : RowLaws tests symbol_of) {rows : List A} {least i : ℕ} (v : RowsAt tests symbol_of rows least i) where
  -- the rest has no good row, and draws `fault`
  left_at : (fault : Option Fault) → good_rows tests symbol_of least (drop i rows) ≡ [] → drawn (rows_tests tests symbol_of least (drop i rows)) ≡ fault → Left tests symbol_of rows fault i
  left_at fault g d =
      let e = sym (append-nil (take i rows)) ∙ ap (λ (l : List A). take i rows ++ l) (sym g) ∙ v.read in
      let size : length (take i rows) ≡ i = length-take-le i rows (omega (arith, v.within)) in
      record { good = e; count = sym size ∙ ap length e; fault-is = sym d ∙ v.drew }

  -- no row is left
  pub ended : length rows ≤ i → Left tests symbol_of rows None i
  ended h =
      let e = drop_of_length-le rows h in
      left_at None
      (ap (good_rows tests symbol_of least) e ∙ none-good tests symbol_of laws least)
      (ap (λ (l : List A). drawn (rows_tests tests symbol_of least l)) e ∙ none-drew tests symbol_of laws least)

  -- a row is left; d is what a read past the end would give
  module _ (d : A) (h : i < length rows) where
    abbrev row : A
    row = get_or rows i d

    abbrev later : List A
    later = drop (suc i) rows

    row_first : drop i rows ≡ row ∷ later
    row_first = drop-cons rows i d h

    good_of : good_rows tests symbol_of least (drop i rows) ≡ unless_drawn (drawn (tests least row)) (row ∷ good_rows tests symbol_of (symbol_of row + 1) later) []
    good_of = ap (good_rows tests symbol_of least) row_first ∙ rows-good tests symbol_of laws least row later

    drawn-of : drawn (rows_tests tests symbol_of least (drop i rows)) ≡ first_drawn (drawn (tests least row)) (drawn (rows_tests tests symbol_of (symbol_of row + 1) later))
    drawn-of = ap (λ (l : List A). drawn (rows_tests tests symbol_of least l)) row_first ∙ rows-drew tests symbol_of laws least row later

    -- the rows so far, with this one
    taken_more : take (i + 1) rows ≡ take i rows ++ (row ∷ [])
    taken_more = ap (λ (j : ℕ). take j rows) (add-one i) ∙ take-suc rows i d h

    pub goes_on : drawn (tests least row) ≡ None → RowsAt tests symbol_of rows (symbol_of row + 1) (i + 1)
    goes_on z =
        let next = good_rows tests symbol_of (symbol_of row + 1) later in
        record {
          within = omega arith;
          read =
              ap (λ (l : List A). l ++ good_rows tests symbol_of (symbol_of row + 1) (drop (i + 1) rows)) taken_more
              ∙ ap (λ (j : ℕ). (take i rows ++ (row ∷ [])) ++ good_rows tests symbol_of (symbol_of row + 1) (drop j rows)) (add-one i)
              ∙ append_assoc (take i rows) (row ∷ []) next
              ∙ ap (λ (l : List A). take i rows ++ l) (unless-none _ (row ∷ next) [] z ∙ sym good_of)
              ∙ v.read;
          drew =
              ap (λ (j : ℕ). drawn (rows_tests tests symbol_of (symbol_of row + 1) (drop j rows))) (add-one i)
              ∙ first-none-is _ _ z
              ∙ sym drawn-of
              ∙ v.drew;
        }

    pub stops : (drawn (tests least row) ≡ None → ⊥) → Left tests symbol_of rows (drawn (tests least row)) i
    stops s = left_at (drawn (tests least row)) (good_of ∙ sym (unless-some _ _ [] s)) (drawn-of ∙ sym (first-some-is _ _ s))

below-by : {A : Type 0} (symbol_of : A → ℕ) (d : Option Fault) (r : A) (l : List A) → (d ≡ None → symbol_of r < 256) → All (λ q. symbol_of q < 256) l → All (λ q. symbol_of q < 256) (unless_drawn d (r ∷ l) [])
below-by symbol_of None r l h a = (h refl, a)
below-by symbol_of (Some f) r l h a = tt

-- the good rows' symbols are at most 255
pub good-below : {A : Type 0} (tests : ℕ → A → List Test) (symbol_of : A → ℕ) → RowLaws tests symbol_of → (least : ℕ) (l : List A) → All (λ r. symbol_of r < 256) (good_rows tests symbol_of least l)
unfolding good_rows
good-below tests symbol_of laws least [] = tt
good-below tests symbol_of laws least (r ∷ l) =
    below-by symbol_of (drawn (tests least r)) r _ (λ e. (laws.ascends least r e).high) (good-below tests symbol_of laws (symbol_of r + 1) l)
