-- `newest` meets its contract: what stands is what wins among the rows so far.
use Rattle.corrections.proofs.Standing.{none-standing}
use Rattle.corrections.proofs.newest.newest.Goals as goal

pub loop-row-init : goal.loop-row-init
loop-row-init c = none-standing
