-- `wanted_orders` meets its contract: the orders so far, and those of the weights that are left, are the whole walk.
use Rattle.portfolio.specs.State.{money_of}
use Rattle.portfolio.proofs.Weighing.{WalkAt}
use Rattle.portfolio.proofs.state.Portfolio.wanted_orders.Given as goal

abbrev pub invariant-loop-w : goal.invariant-loop-w
invariant-loop-w l = WalkAt (money_of l.self) l.total l.rows l.list l.w-index
