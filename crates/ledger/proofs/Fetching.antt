-- Tables that draw nothing: a row's symbol is below 256, fetched rows become latest, and merged tables are read as such. Assumes nothing.
use Prim.Native.Nat.{ℕ, zero, suc, ◌+◌, ◌<◌}
use native.Mathlib.Omega.{arith}
use mathlib.Core.Bool.{cond}
use mathlib.Core.Path.{◌≡◌, refl, ◌∙◌, fun_ext}
use mathlib.Core.List.{List, [], ◌∷◌, foldl}
use Rattle.std.specs.declared.option.Option.{Option}
use Rattle.std.specs.declared.option.Option.TheVariants.{None, Some}
use lib.Dec.{ltb}
use lib.ListN.{length, get_or, get_or-eq_default}
use Rattle.std.proofs.lemmas.Option.{none-some}
use Rattle.lists.specs.Lists.{each, given}
use Rattle.lists.proofs.Each.{length-each}
use Rattle.market.specs.Faults.{drawn}
use Rattle.market.specs.Quotes.{table_tests, row_for, table_of, row_at}
use Rattle.market.specs.declared.quote.Quote.{Quote}
use Rattle.market.specs.declared.table.Table.{Table}
use Rattle.market.proofs.Tables as Tables
use Rattle.market.proofs.Tables.{row-ascends, rows_none, table-row, table-rows-length}
use Rattle.rules.specs.Money.{fetch_one}
use Rattle.portfolio.specs.Booking.{merge_of}

-- a row's symbol is below 256
pub row_below : (least : ℕ) (l : List Quote) (n : ℕ) (q : Quote) → drawn (table_tests least l) ≡ None → row_for l n ≡ Some q → n < 256
row_below least [] n q d e = absurd (none-some q e)
row_below least (x ∷ l) n q d e =
    let r = rows_none least x l d in
    grind (arith, (row-ascends least x r.0).high, row_below (x.symbol + 1) l n q r.1)

-- ---- fetched rows

fetch-at : (least : ℕ) (l : List Quote) (m : ℕ → Option Quote) (n : ℕ) → drawn (table_tests least l) ≡ None → foldl fetch_one m l n ≡ given (row_for l n) (m n) Some
fetch-at least [] m n d = refl
fetch-at least (q ∷ l) m n d =
    let r = rows_none least q l d in
    fetch-at (q.symbol + 1) l (fetch_one m q) n r.1 ∙ grind (arith, Tables.row_below (q.symbol + 1) l n r.1)

-- the first table's rows are the first latest quotes
pub first_rows : (l : List Quote) → drawn (table_tests 0 l) ≡ None → row_at (table_of l) ≡ foldl fetch_one (λ n. None) l
first_rows l d = fun_ext (λ n. grind (arith, table-row l d n, fetch-at 0 l (λ k. None) n d))

-- ---- a merged table

get_or-each : {A B : Type 0} (f : ℕ → A → B) (i : ℕ) (l : List A) (n : ℕ) (d : A) (e : B) → n < length l → get_or (each f i l) n e ≡ f (i + n) (get_or l n d)
get_or-each f i [] n d e h = grind arith
get_or-each f i (a ∷ l) zero d e h = grind arith
get_or-each f i (a ∷ l) (suc n) d e h = grind (arith, get_or-each f (suc i) l n d e)

module _ (l f : Table) (p : length l.rows ≡ 256) where
  merge-at : (n : ℕ) → n < 256 → row_at (merge_of l f) n ≡ given (row_at f n) (row_at l n) Some
  unfolding merge_of
  merge-at n h = grind (arith, get_or-each (λ i q. given (row_at f i) q Some) 0 l.rows n None None)

  merged-row : (n : ℕ) → row_at (merge_of l f) n ≡ cond (ltb n 256) (given (row_at f n) (row_at l n) Some) None
  unfolding merge_of
  merged-row n = grind (arith, length-each, get_or-eq_default, merge-at n)

  -- below 256 a fetched row stands, else the latest one; above that there is none, whatever the fetched table is
  pub merge-rows : row_at (merge_of l f) ≡ (λ n. cond (ltb n 256) (given (row_at f n) (row_at l n) Some) None)
  merge-rows = fun_ext merged-row

merge-row : (l f : Table) (n : ℕ) → length l.rows ≡ 256 → length f.rows ≡ 256 → row_at (merge_of l f) n ≡ given (row_at f n) (row_at l n) Some
merge-row l f n p q = grind (arith, get_or-eq_default, merged-row l f p n)

-- a table merged with fetched rows is read as the latest quotes with those rows taken in
pub merge-fetched : (l : Table) (rows : List Quote) → length l.rows ≡ 256 → drawn (table_tests 0 rows) ≡ None →
    row_at (merge_of l (table_of rows)) ≡ foldl fetch_one (row_at l) rows
merge-fetched l rows p d = fun_ext (λ n. merge-row l (table_of rows) n p (table-rows-length rows) ∙ grind (arith, table-row rows d n, fetch-at 0 rows (row_at l) n d))
