-- The walk alone, which writes its orders to a lent list and answers how many: document 01, section 5. Definitions only.
use Rattle.std.specs.Prelude.{ℕ, List, ◌++◌, length, Option}
use Rattle.lists.specs.Lists.{over}
use Rattle.market.specs.Faults.{drawn, unless_drawn, first_drawn}
use Rattle.market.specs.declared.fault.Fault.{Fault}
use Rattle.market.specs.Weights.{weight_rows}
use Rattle.market.specs.declared.order.Order.{Order}
use Rattle.market.specs.declared.weight.Weight.{Weight}
use Rattle.rules.specs.Weights.{Plan, plan_of}
use Rattle.portfolio.specs.State.{money_of}
use Rattle.broker.specs.Lender.{lender_tests}
use Rattle.broker.specs.declared.state.UistBroker.{UistBroker}

-- 16, 15, then the rows of weights; then what the plan draws
unfoldable pub walk_for : UistBroker → List Weight → List Order → Option Fault
walk_for b w o = drawn (lender_tests b (length w) (length o) ++ weight_rows 0 w)

abbrev pub plan_for : UistBroker → List Weight → Plan
plan_for b w = plan_of (money_of b.portfolio) w

unfoldable pub walk_fault : UistBroker → List Weight → List Order → Option Fault
walk_fault b w o = first_drawn (walk_for b w o) (plan_for b w).fault

-- how many orders are written where nothing is drawn
abbrev pub walk_count : UistBroker → List Weight → ℕ
walk_count b w = length (plan_for b w).orders

-- the orders stand in the first places of the lent list, its old entries past them
unfoldable pub walk_orders : UistBroker → List Weight → List Order → List Order
walk_orders b w o = unless_drawn (walk_for b w o) (over (plan_for b w).orders o) o
