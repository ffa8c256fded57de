-- `newest` meets its contract: what stands is what wins among the rows so far.
use lib.ListN.{take}
use Rattle.corrections.proofs.Standing.{Standing}
use Rattle.corrections.proofs.newest.newest.Given as goal

abbrev pub invariant-loop-row : goal.invariant-loop-row
invariant-loop-row l = Standing (take l.row-index l.rows) l.kept
