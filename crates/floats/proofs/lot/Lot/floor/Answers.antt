-- `Lot::floor` meets its contract: above zero by the multiple not above, below zero by the one not below, with the sign, and a zero comes back.
-- Its tests compare x with 0 by its bit pattern, which is 0 once `of_bits` is unfolded. Assumes nothing.
use Rattle.std.proofs.Common.{arith}
use lib.Ieee.{of_bits, neg}
use Rattle.floats.proofs.Cut.{yes, no, holds}
use Rattle.floats.proofs.Ranges.{neg-range}
use Rattle.floats.proofs.Multiples.{lot-above, lot-below, lot-zero}
use Rattle.floats.proofs.lot.Lot.floor.Goals as goal

pub whole_under-requires : goal.whole_under-requires
unfolding of_bits
whole_under-requires c = record { above_zero = yes c.if-x.true; in_range = c.requires.below_most }

pub int_to_float-result : goal.int_to_float-result
int_to_float-result c = holds c.multiple_under.result (omega (arith, c.multiple_under.ensures.1, c.whole_under.ensures.1))

pub returns-then-x : goal.returns-then-x
unfolding of_bits
returns-then-x c = lot-above c.args.self.size c.args.x c.whole_under.result c.multiple_under.result (yes c.if-x.true) c.requires.below_most c.whole_under.ensures.0 c.multiple_under.ensures.0

pub whole_over-requires : goal.whole_over-requires
unfolding of_bits neg
whole_over-requires c = (let p = neg-range c.args.x (yes c.if-x-2.true) c.requires.above_least in record { above_zero = p.0; in_range = p.1 })

pub int_to_float-result-then-x-2 : goal.int_to_float-result-then-x-2
int_to_float-result-then-x-2 c = holds c.multiple_over.result (omega (arith, c.multiple_over.ensures.1, c.whole_over.ensures.1, c.well_formed.0.1.1.0.1))

pub returns-then-x-2 : goal.returns-then-x-2
unfolding of_bits neg
returns-then-x-2 c = lot-below c.args.self.size c.args.x c.whole_over.result c.multiple_over.result c.args.self.some (yes c.if-x-2.true) c.requires.above_least c.whole_over.ensures.0 c.multiple_over.ensures.0

pub returns : goal.returns
unfolding of_bits
returns c = lot-zero c.args.self.size c.args.x (yes c.well_formed.1.0.1) (no c.if-x.false) (no c.if-x-2.false)
