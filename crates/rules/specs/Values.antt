-- Values: document 01, section 4. Definitions only.
use Rattle.std.specs.Prelude.{ℕ, false, Float}
use mathlib.Core.List.{List, foldl}
use Rattle.std.specs.Prelude.{Option, None, Some}
use Rattle.lists.specs.Lists.{given, span}
use Rattle.market.specs.declared.quote.Quote.{Quote}
use Rattle.costs.specs.Costs.{trade_impact_total}
use Rattle.rules.specs.Amounts.{plus, times}
use Rattle.rules.specs.Money.{Money}

-- the symbols, ascending: 0 to 255
unfoldable pub symbols : List ℕ
symbols = span 0 256

-- a held symbol's value is latest bid × holding, absent without a latest quote
abbrev pub value_at : Option Quote → Option Float → Option Float
value_at None h = None
value_at (Some q) None = None
value_at (Some q) (Some h) = Some (times q.bid h)

abbrev pub value_of : Money → ℕ → Option Float
value_of m s = value_at (m.latest s) (m.held s)

-- `get_total_value` adds the present values to cash by ascending symbol
abbrev pub add_value : Money → Float → ℕ → Float
add_value m v s = given (value_of m s) v (λ x. plus v x)

unfoldable pub total_value : Money → Float
total_value m = foldl (add_value m) m.cash symbols

-- `get_liquidation_value` adds to cash, in that order, the budget that `trade_impact_total` leaves of each present value in a sale
-- (the price does not act on the budget: the value itself stands for it)
abbrev pub sale_budget : Money → Float → Float
sale_budget m x = (trade_impact_total m.costs x x false).budget

abbrev pub add_sale : Money → Float → ℕ → Float
add_sale m v s = given (value_of m s) v (λ x. plus v (sale_budget m x))

unfoldable pub liquidation_value : Money → Float
liquidation_value m = foldl (add_sale m) m.cash symbols
