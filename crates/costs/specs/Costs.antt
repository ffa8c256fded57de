-- The rules of trade costs, over a list of them: document 01, section 1.
use Rattle.std.specs.Prelude.{Bool, true, false, Float}
use mathlib.Core.List.{List, foldl}
use Rattle.std.specs.Float.Ieee as Ieee
use Rattle.std.specs.Float.{binary64}
use Rattle.std.specs.Float.Ieee.Scale.{finite}
use Rattle.costs.specs.declared.BrokerCost.{BrokerCost}
use Rattle.costs.specs.declared.BrokerCost.TheVariants.{PerShare, PctOfValue, Flat}
use Rattle.costs.specs.declared.Impact.{Impact}

-- the literals 0.0 and 1.0
abbrev pub zero64 : Float
zero64 = Ieee.of_bits binary64 0

abbrev pub one64 : Float
one64 = Ieee.of_bits binary64 4607182418800017408

-- per share adds to a buy price and subtracts from a sale price; a part p multiplies the budget by 1-p; flat lowers the budget
unfoldable pub trade_impact : BrokerCost → Impact → Bool → Impact
trade_impact (PerShare c) i true = record { budget = i.budget; price = Ieee.add binary64 i.price c }
trade_impact (PerShare c) i false = record { budget = i.budget; price = Ieee.sub binary64 i.price c }
trade_impact (PctOfValue p) i is_buy = record { budget = Ieee.mul binary64 i.budget (Ieee.sub binary64 one64 p); price = i.price }
trade_impact (Flat c) i is_buy = record { budget = Ieee.sub binary64 i.budget c; price = i.price }

-- one cost's step of the next definition
abbrev pub impact_step : Bool → Impact → BrokerCost → Impact
impact_step is_buy i c = trade_impact c i is_buy

-- `trade_impact_total` applies the costs in order
unfoldable pub trade_impact_total : List BrokerCost → Float → Float → Bool → Impact
trade_impact_total costs budget price is_buy = foldl (impact_step is_buy) (record { budget = budget; price = price }) costs

-- a cost's charge on a trade: cost × quantity, value × part, or the flat sum
unfoldable pub calc : BrokerCost → Float → Float → Float
calc (PerShare c) quantity value = Ieee.mul binary64 c quantity
calc (PctOfValue p) quantity value = Ieee.mul binary64 value p
calc (Flat c) quantity value = c

-- one cost's step of the next definition
abbrev pub charge_step : Float → Float → Float → BrokerCost → Float
charge_step quantity value sum c = Ieee.add binary64 sum (calc c quantity value)

-- `calculate_trade_costs` adds each cost's charge, in order, from 0.0
unfoldable pub trade_costs : List BrokerCost → Float → Float → Float
trade_costs costs quantity value = foldl (charge_step quantity value) zero64 costs

-- a cost whose figure is finite
abbrev pub is_finite : BrokerCost → Bool
is_finite (PerShare x) = finite x
is_finite (PctOfValue x) = finite x
is_finite (Flat x) = finite x
