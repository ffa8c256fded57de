-- The walk over weights alone, on the program's state: document 01, section 5. Definitions only.
use Rattle.std.specs.Prelude.{ℕ, ◌≡◌, [], Option, None, Some, Result}
use Rattle.market.specs.Faults.{drawn, first_drawn}
use Rattle.market.specs.declared.fault.Fault.{Fault}
use Rattle.rules.specs.Weights.{Plan, plan_of}
use Rattle.market.specs.Weights.{weighed}
use Rattle.portfolio.specs.State.{money_of}
use Rattle.portfolio.specs.Weigh.{plan_in}
use Rattle.portfolio.specs.declared.list.OrderList.{OrderList}
use Rattle.broker.specs.Lender.{lender_tests}
use Rattle.broker.specs.declared.state.UistBroker.{UistBroker}
use Rattle.market.specs.declared.weight.Weights.{Weights}

-- 16, 15, then what the rows of weights drew
unfoldable pub walk_fault : UistBroker → ℕ → ℕ → Option Fault → Option Fault
walk_fault b rows room fault = first_drawn (drawn (lender_tests b rows room)) fault

-- the orders of the weights, and what they draw
abbrev pub plan_by : UistBroker → Weights → Plan
plan_by b w = plan_of (money_of b.portfolio) (weighed w)

-- the plan, where nothing is drawn before the walk; else no order, and what was drawn
abbrev pub walked : Option Fault → Plan → Plan
walked None p = p
walked (Some f) p = record { fault = Some f; orders = [] }

abbrev pub Walks : UistBroker → Weights → ℕ → ℕ → Result OrderList Fault → Type 0
Walks b w rows room r = plan_in r ≡ walked (walk_fault b rows room w.fault) (plan_by b w)
