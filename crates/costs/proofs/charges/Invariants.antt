-- `charges`: the sum so far is that of the costs so far.
use mathlib.Core.Path.{◌≡◌}
use mathlib.Core.List.{foldl}
use lib.ListN.{take}
use Rattle.costs.specs.Costs.{charge_step, zero64}
use Rattle.costs.proofs.charges.Given as goal

abbrev pub invariant-loop-cost : goal.invariant-loop-cost
invariant-loop-cost l = l.sum ≡ foldl (charge_step l.quantity l.value) zero64 (take l.cost-index l.cost-items)
