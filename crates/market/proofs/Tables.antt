-- Laws of the table by symbol: its number, its rows, its lengths, and that 257 rows are enough.
use Prim.Native.Nat.{ℕ, zero, suc, ◌+◌, ◌<◌}
use mathlib.Core.Path.{◌≡◌, refl, ap, ap₂, sym, ◌∙◌}
use mathlib.Core.Bool.{Bool, true, false, ◌&&◌, cond}
use mathlib.Core.List.{List, [], ◌∷◌, foldl}
use Rattle.std.specs.declared.option.Option.{Option}
use Rattle.std.specs.declared.option.Option.TheVariants.{None, Some}
use native.Mathlib.Omega.{arith}
use lib.Dec.{eqb}
use lib.ListN.{length, take, get_or, replicate, length-set, length-replicate}
use lib.Seq.{get_or-set_same, get_or-set_other}
use borrow.Author.Tests.{ne_eqb, eqb-true, eqb-false}
use Rattle.lists.specs.Lists.{given}
use Rattle.market.specs.Faults.{drawn}
use Rattle.market.specs.declared.fault.Fault.{Fault}
use Rattle.market.specs.Quotes.{is_price, row_tests, table_tests, row_for, empty_table, put_row, faulted, table_of, row_at}
use Rattle.market.specs.Rows.{good_rows}
use Rattle.market.specs.declared.quote.Quote.{Quote}
use Rattle.market.specs.declared.table.Table.{Table}
use Rattle.market.proofs.Rows as Rows
use Rattle.market.proofs.Rows.{Ascends, RowLaws, supplier-laws, good-all, most-drew, most-good}

-- ---- rows of quotes

pub quote-laws : RowLaws row_tests (λ (q : Quote). q.symbol)
quote-laws = supplier-laws (λ (q : Quote). q.symbol) (λ q. is_price q.bid && is_price q.ask)

-- a row that drew nothing ascends, and its symbol is at most 255
pub row-ascends : (least : ℕ) (q : Quote) → drawn (row_tests least q) ≡ None → Ascends least q.symbol
row-ascends least q e = quote-laws.ascends least q e

-- where the rows draw nothing, the first does not, nor do the others
pub rows_none : (least : ℕ) (q : Quote) (l : List Quote) → drawn (table_tests least (q ∷ l)) ≡ None → (drawn (row_tests least q) ≡ None) × (drawn (table_tests (q.symbol + 1) l) ≡ None)
rows_none least q l e = Rows.rows_none row_tests (λ q. q.symbol) quote-laws least q l e

-- ---- the number that the rows drew

-- the table keeps it
pub table-fault : (l : List Quote) → (table_of l).fault ≡ drawn (table_tests 0 l)
unfolding table_of
table-fault l = refl

-- ---- the array's length

abbrev no_row : Option Quote
no_row = None

abbrev Long : Table → Type 0
Long t = length t.rows ≡ 256

put-long : (t : Table) (q : Quote) → Long t → Long (put_row t q)
put-long t q s = length-set t.rows q.symbol (Some q) ∙ s

all-long : (t : Table) (l : List Quote) → Long t → Long (foldl put_row t l)
all-long t [] s = s
all-long t (q ∷ l) s = all-long (put_row t q) l (put-long t q s)

empty-long : Long empty_table
unfolding empty_table
empty-long = length-replicate 256 no_row

pub table-rows-length : (l : List Quote) → length (table_of l).rows ≡ 256
unfolding table_of
table-rows-length l = all-long empty_table (good_rows row_tests (λ q. q.symbol) 0 l) empty-long

-- ---- at most 256 rows ascend, so no row after the 257th counts

pub table-most : (l : List Quote) → table_of (take 257 l) ≡ table_of l
unfolding table_of
table-most l =
    ap₂ (λ (k : List Quote) (n : Option Fault). faulted (foldl put_row empty_table k) n)
    (most-good row_tests (λ q. q.symbol) quote-laws l)
    (most-drew row_tests (λ q. q.symbol) quote-laws l)

-- ---- the row for a symbol

-- rows that draw nothing have no symbol below the first's bound
pub row_below : (least : ℕ) (l : List Quote) (n : ℕ) → drawn (table_tests least l) ≡ None → n < least → row_for l n ≡ None
row_below least [] n e h = refl
row_below least (q ∷ l) n e h =
    let d = rows_none least q l e in
    let a = row-ascends least q d.0 in
    let ne : eqb q.symbol n ≡ false = ne_eqb q.symbol n (λ x. omega (arith, a.low)) in
    rw ne (row_below (q.symbol + 1) l n d.1 (omega (arith, a.low)))

module _ (t : Table) (q : Quote) (n : ℕ) where
  -- the row put in is its symbol's
  put_same : Long t → q.symbol < 256 → q.symbol ≡ n → row_at (put_row t q) n ≡ Some q
  put_same s h e =
      let r : q.symbol < length t.rows = omega (arith, s) in
      rw (sym e, get_or-set_same t.rows q.symbol (Some q) None r)

  -- the other symbols keep theirs
  put_other : (q.symbol ≡ n → ⊥) → row_at (put_row t q) n ≡ row_at t n
  put_other d = get_or-set_other t.rows q.symbol n (Some q) None (λ x. d (sym x))

  -- one row more
  row_by : (l : List Quote) → Long t → q.symbol < 256 → drawn (table_tests (q.symbol + 1) l) ≡ None → (b : Bool) → eqb q.symbol n ≡ b → given (row_for l n) (row_at (put_row t q) n) Some ≡ given (cond b (Some q) (row_for l n)) (row_at t n) Some
  row_by l s h d true e =
      let same = eqb-true q.symbol n e in
      rw (row_below (q.symbol + 1) l n d (omega arith)) (put_same s h same)
  row_by l s h d false e = ap (λ (o : Option Quote). given (row_for l n) o Some) (put_other (eqb-false q.symbol n e))

all-rows : (least : ℕ) (t : Table) (l : List Quote) (n : ℕ) → Long t → drawn (table_tests least l) ≡ None → row_at (foldl put_row t l) n ≡ given (row_for l n) (row_at t n) Some
all-rows least t [] n s e = refl
all-rows least t (q ∷ l) n s e =
    let d = rows_none least q l e in
    let a = row-ascends least q d.0 in
    all-rows (q.symbol + 1) (put_row t q) l n (put-long t q s) d.1 ∙ row_by t q n l s a.high d.1 (eqb q.symbol n) refl

-- nothing is present in the empty table
none-present : (k n : ℕ) → ◌≡◌ {A = Option Quote} (get_or (replicate k None) n None) None
none-present zero n = refl
none-present (suc k) zero = refl
none-present (suc k) (suc n) = none-present k n

none-empty : (n : ℕ) → row_at empty_table n ≡ None
unfolding empty_table
none-empty n = none-present 256 n

given-none : (o : Option Quote) → given o None Some ≡ o
given-none None = refl
given-none (Some q) = refl

-- a table whose rows drew nothing has the row for each symbol
pub table-row : (l : List Quote) → drawn (table_tests 0 l) ≡ None → (n : ℕ) → row_at (table_of l) n ≡ row_for l n
unfolding table_of
table-row l e n =
    ap (λ (k : List Quote). row_at (foldl put_row empty_table k) n) (good-all row_tests (λ q. q.symbol) quote-laws 0 l e)
    ∙ all-rows 0 empty_table l n empty-long e
    ∙ ap (λ (o : Option Quote). given (row_for l n) o Some) (none-empty n)
    ∙ given-none (row_for l n)
