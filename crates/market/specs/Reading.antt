-- What is read of rows that ascend by symbol. Definitions only.
use Rattle.std.specs.Prelude.{ℕ, ◌≡◌, Bool, List, length, take}
use Rattle.market.specs.Faults.{Test, drawn}
use Rattle.market.specs.Rows.{supplier_tests, rows_tests, good_rows}
use Rattle.market.specs.declared.row.RowsRead.{RowsRead}

-- the tests of a row by its symbol and by whether its values are as they must be
abbrev pub tests_by : {A : Type 0} → (A → ℕ) → (A → Bool) → ℕ → A → List Test
tests_by symbol_of sound least r = supplier_tests least (symbol_of r) (sound r)

-- how many rows are good: they are the first ones; and the number that the rows draw
pub record ReadsRows {A : Type 0} (symbol_of : A → ℕ) (sound : A → Bool) (rows : List A) (r : RowsRead) : Type 0 where
  pub count : r.count ≡ length (good_rows (tests_by symbol_of sound) symbol_of 0 rows)
  pub good : take r.count rows ≡ good_rows (tests_by symbol_of sound) symbol_of 0 rows
  pub fault : r.fault ≡ drawn (rows_tests (tests_by symbol_of sound) symbol_of 0 rows)
