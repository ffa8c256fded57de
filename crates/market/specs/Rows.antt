-- Rows that ascend by symbol, of quotes or of weights: document 01, section 2, and the supplier's 1, 2 and 3. Definitions only.
use Rattle.std.specs.Prelude.{ℕ, ◌≡◌, ◌+◌, ◌<◌, ◌≤◌, Bool, not, List, [], ◌∷◌, ◌++◌, ltb, None}
use Rattle.market.specs.Faults.{Test, ◌draws◌, drawn, unless_drawn}
use Rattle.market.specs.declared.fault.Fault.TheVariants.{UnknownSymbol, BadValue, NotAscending}

-- per row: 1 symbol above 255; 2 values that are not as they must be; 3 row not ascending.
-- `least` is the least symbol that ascends: 0 for the first row, then one more than the symbol of the row before
abbrev pub supplier_tests : ℕ → ℕ → Bool → List Test
supplier_tests least symbol sound = (ltb 255 symbol draws UnknownSymbol) ∷ (not sound draws BadValue) ∷ (ltb symbol least draws NotAscending) ∷ []

-- the tests of rows in order, where `tests` are those of one row
abbrev pub rows_tests : {A : Type 0} → (ℕ → A → List Test) → (A → ℕ) → ℕ → List A → List Test
rows_tests tests symbol_of least [] = []
rows_tests tests symbol_of least (r ∷ l) = tests least r ++ rows_tests tests symbol_of (symbol_of r + 1) l

-- the rows before the first that draws a number
unfoldable pub good_rows : {A : Type 0} → (ℕ → A → List Test) → (A → ℕ) → ℕ → List A → List A
good_rows tests symbol_of least [] = []
good_rows tests symbol_of least (r ∷ l) = unless_drawn (drawn (tests least r)) (r ∷ good_rows tests symbol_of (symbol_of r + 1) l) []

-- a row that drew nothing ascends, and its symbol is at most 255
pub record Ascends (least symbol : ℕ) : Type 0 where
  pub low : least ≤ symbol
  pub high : symbol < 256

-- what reading rows asks of a row's tests: a row that draws nothing ascends
pub record RowLaws {A : Type 0} (tests : ℕ → A → List Test) (symbol_of : A → ℕ) : Type 0 where
  pub ascends : (least : ℕ) (r : A) → drawn (tests least r) ≡ None → Ascends least (symbol_of r)
