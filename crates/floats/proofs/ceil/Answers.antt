-- `floats::ceil` meets its contract: what is not below x is what is not above -x, negated. Assumes nothing.
use Rattle.std.proofs.Common.{ap, ◌∙◌}
use lib.Ieee.{neg}
use Rattle.floats.proofs.Ranges.{neg-floor}
use Rattle.floats.proofs.ceil.Goals as goal

pub returns : goal.returns
returns c = ap neg c.floor.ensures ∙ neg-floor c.args.x
