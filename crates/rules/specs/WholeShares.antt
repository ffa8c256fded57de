-- The walk of document 01, section 5, as it was before lots: in whole shares, and without 18. `lot-one-plan` in `proofs/LotOne.antt` proves that the plan of
-- a broker with lot 1 is this one. Definitions only.
use Rattle.std.specs.Prelude.{true, false, cond, List, [], ◌∷◌, ◌++◌, Float}
use Rattle.lists.specs.Lists.{given}
use Rattle.market.specs.Faults.{◌draws◌, drawn}
use Rattle.market.specs.declared.fault.Fault.TheVariants.{NothingToWeigh}
use Rattle.market.specs.Orders.{zero64}
use Rattle.market.specs.declared.order.Order.{Order}
use Rattle.market.specs.declared.quote.Quote.{Quote}
use Rattle.market.specs.declared.weight.Weight.{Weight}
use Rattle.costs.specs.declared.BrokerCost.{BrokerCost}
use Rattle.costs.specs.declared.Impact.{Impact}
use Rattle.costs.specs.Costs.{trade_impact_total}
use Rattle.floats.specs.Whole.{floor_of}
use Rattle.orders.specs.Orders.{sells_first}
use Rattle.rules.specs.Amounts.{divided, negated, below, is_zero, size}
use Rattle.rules.specs.Money.{Money}
use Rattle.rules.specs.Values.{liquidation_value}
use Rattle.rules.specs.Weights.{order_for, difference, Plan, plan_as}

-- the net budget over the net price, rounded down
abbrev pub whole_of : Impact → Float
whole_of net = floor_of (divided net.budget net.price)

abbrev pub whole_shares : List BrokerCost → Float → Quote → Float
whole_shares costs d q =
    cond (below d zero64) (negated (whole_of (trade_impact_total costs (size d) q.bid false))) (whole_of (trade_impact_total costs (size d) q.ask true))

-- a zero difference ends the walk; an unquoted symbol is passed over
unfoldable pub whole_walk : Money → Float → List Weight → List Order
whole_walk m v [] = []
whole_walk m v (w ∷ l) =
    let d = difference m v w in
    cond (is_zero d) [] (given (m.latest w.symbol) [] (λ q. order_for w.symbol (whole_shares m.costs d q)) ++ whole_walk m v l)

-- 13 alone
unfoldable pub whole_plan : Money → List Weight → Plan
whole_plan m l = let v = liquidation_value m in plan_as (drawn ((is_zero v draws NothingToWeigh) ∷ [])) (sells_first (whole_walk m v l))
