-- `some_alike` meets its contract: some of the rows from a turn's on are alike where some of all are.
use mathlib.Core.Path.{◌≡◌}
use lib.ListN.{drop}
use Rattle.corrections.specs.Corrections.{some_alike}
use Rattle.corrections.proofs.faults.some_alike.Given as goal

abbrev pub invariant-loop-i : goal.invariant-loop-i
invariant-loop-i l = some_alike (drop l.i l.rows) ≡ some_alike l.rows
