-- `sell_positions` meets its contract: the orders so far, then those of the walk over the symbols that are left, are those of the whole walk.
use Prim.Native.Nat.{◌-◌}
use Rattle.portfolio.specs.State.{money_of}
use Rattle.portfolio.proofs.Selling.{Selling}
use Rattle.portfolio.proofs.liquidate.sell_positions.Given as goal

abbrev pub invariant-loop-symbol : goal.invariant-loop-symbol
invariant-loop-symbol l = Selling (money_of l.p) l.amount l.list l.rest l.symbol

abbrev pub decreases-loop-symbol : goal.decreases-loop-symbol
decreases-loop-symbol l = 256 - l.symbol
