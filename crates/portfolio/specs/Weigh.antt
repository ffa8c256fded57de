-- The walk over weights on the program's state. Definitions only.
use Rattle.std.specs.Prelude.{[]}
use Rattle.std.specs.Prelude.{None, Some, Result, Ok, Err}
use Rattle.market.specs.declared.fault.Fault.{Fault}
use Rattle.rules.specs.Weights as Rules
use Rattle.portfolio.specs.Lists.{listed}
use Rattle.portfolio.specs.declared.list.OrderList.{OrderList}

-- what the walk's answer says: the orders that are listed, or what is drawn and no orders
abbrev pub plan_in : Result OrderList Fault → Rules.Plan
plan_in (Ok l) = record { fault = None; orders = listed l }
plan_in (Err f) = record { fault = Some f; orders = [] }
