-- `side_onto` meets its contract: the orders of the side so far stand behind the others.
use mathlib.Core.Path.{◌≡◌}
use lib.ListN.{take}
use Rattle.orders.specs.Orders.{of_side}
use Rattle.portfolio.specs.Lists.{onto_of}
use Rattle.portfolio.proofs.weigh.side_onto.Given as goal

abbrev pub invariant-loop-o : goal.invariant-loop-o
invariant-loop-o l = l.out ≡ onto_of l.initial.out (of_side l.sells (take l.o-index l.o-items))
