-- `kept`: the rows so far stand in the first places.
use mathlib.Core.Path.{◌≡◌}
use lib.ListN.{take, replicate}
use Rattle.lists.specs.Lists.{over}
use Rattle.market.specs.Weights.{blank_weight}
use Rattle.market.proofs.weight.kept.Given as goal

abbrev pub invariant-loop-i : goal.invariant-loop-i
invariant-loop-i l = l.kept ≡ over (take l.i l.rows) (replicate 257 blank_weight)
