-- `net_of`: the budget and the price so far are net of the costs so far.
use mathlib.Core.Path.{◌≡◌}
use mathlib.Core.List.{foldl}
use lib.ListN.{take}
use Rattle.costs.specs.Costs.{impact_step}
use Rattle.costs.proofs.net_of.Given as goal

abbrev pub invariant-loop-cost : goal.invariant-loop-cost
invariant-loop-cost l = l.net ≡ foldl (impact_step l.is_buy) l.fn.gross (take l.cost-index l.costs)
