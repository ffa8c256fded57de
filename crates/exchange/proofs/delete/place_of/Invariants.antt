-- `place_of` meets its contract: what is found from a turn's place on is what is found among all. Assumes nothing.
use Rattle.std.proofs.Common.{◌≡◌, drop}
use Rattle.lists.specs.Lists.{first_from}
use Rattle.exchange.specs.Delete.{has_number}
use Rattle.exchange.proofs.delete.place_of.Given as goal

abbrev pub invariant-loop-i : goal.invariant-loop-i
invariant-loop-i l = first_from l.i (has_number l.order_id) (drop l.i l.resting) ≡ first_from 0 (has_number l.order_id) l.resting
