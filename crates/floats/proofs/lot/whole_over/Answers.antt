-- `lot::whole_over` meets its contract: the whole part of a is less than a exactly where something was cut. Assumes nothing.
use Rattle.std.proofs.Common.{arith}
use Rattle.floats.proofs.Multiples.{whole-more, whole_same}
use Rattle.floats.proofs.lot.whole_over.Goals as goal

pub returns-then-n-a : goal.returns-then-n-a
returns-then-n-a c = (whole-more c.args.a c.whole_under-n.result c.requires.above_zero c.requires.in_range c.whole_under-n.ensures.0 c.if-n-a.true, omega (arith, c.whole_under-n.ensures.1))

pub returns : goal.returns
returns c = (whole_same c.args.a c.whole_under-n.result c.requires.above_zero c.requires.in_range c.whole_under-n.ensures.0 c.if-n-a.false, omega (arith, c.whole_under-n.ensures.1))
