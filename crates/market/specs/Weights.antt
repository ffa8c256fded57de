-- Weights: the supplier's 1, 2 and 3 for rows of weights, and what is read of them. Definitions only.
use Rattle.std.specs.Prelude.{ℕ, List, length, take, replicate}
use Rattle.std.specs.Float.Ieee.Scale.{finite}
use Rattle.lists.specs.Lists.{over}
use Rattle.market.specs.Faults.{Test, drawn}
use Rattle.market.specs.Orders.{zero64}
use Rattle.market.specs.Rows.{supplier_tests, rows_tests, good_rows}
use Rattle.market.specs.declared.weight.Weight.{Weight}
use Rattle.market.specs.declared.weight.Weights.{Weights}

-- a row of weights: 2 weight not finite
abbrev pub weight_tests : ℕ → Weight → List Test
weight_tests least w = supplier_tests least w.symbol (finite w.weight)

-- the rows in order
abbrev pub weight_rows : ℕ → List Weight → List Test
weight_rows least l = rows_tests weight_tests (λ w. w.symbol) least l

abbrev pub blank_weight : Weight
blank_weight = record { symbol = 0; weight = zero64 }

-- what is read of rows: the first 257, in the first places of an array, how many are good, and the number that they draw
unfoldable pub weights_of : List Weight → Weights
weights_of l =
    record { rows = over (take 257 l) (replicate 257 blank_weight); count = length (good_rows weight_tests (λ w. w.symbol) 0 l); fault = drawn (weight_rows 0 l) }

-- the rows of weights
abbrev pub weighed : Weights → List Weight
weighed w = take w.count (take 256 w.rows)
