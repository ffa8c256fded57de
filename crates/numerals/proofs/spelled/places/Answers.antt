-- `spelled::places` meets its contract: 0 has as many digits as 1. Assumes nothing.
use Rattle.numerals.proofs.Places.{by-power}
use Rattle.numerals.proofs.spelled.places.Goals as goal

pub returns : goal.returns
returns c = by-power c.args.n c.max.result c.ilog10.result c.max.ensures c.ilog10.ensures.power_le c.ilog10.ensures.next_power_gt
