-- `Sums::of`: the sums so far are those of the rows so far.
use mathlib.Core.Path.{◌≡◌}
use lib.ListN.{take}
use Rattle.turnover.specs.Turnover.{turnover_sums}
use Rattle.turnover.proofs.Sums.of.Given as goal

abbrev pub invariant-loop-t : goal.invariant-loop-t
invariant-loop-t l = l.sums ≡ turnover_sums (take l.t-index l.log)
