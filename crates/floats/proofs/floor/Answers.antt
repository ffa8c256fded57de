-- `floats::floor` meets its contract: a value that is whole, infinite or a NaN comes back, and any other goes to `whole_under` or `whole_over` by its size.
-- Its tests compare x with numbers by their bit patterns, which are 0 and 2 ^ 52 once `of_bits` is unfolded. Assumes nothing.
use Rattle.std.proofs.Common.{arith}
use lib.Ieee.{of_bits, neg}
use Rattle.floats.proofs.Cut.{yes, no, holds}
use Rattle.floats.proofs.Ranges.{neg-range, floor-above, floor-below, at_least, at_most, neither}
use Rattle.floats.proofs.floor.Goals as goal

pub whole_under-requires : goal.whole_under-requires
unfolding of_bits
whole_under-requires c = record { above_zero = yes c.if-x.true; in_range = yes c.if-x-2.true }

pub int_to_float-result : goal.int_to_float-result
int_to_float-result c = holds c.whole_under.result (omega (arith, c.whole_under.ensures.1))

pub returns-then-x-2 : goal.returns-then-x-2
unfolding of_bits
returns-then-x-2 c = floor-above c.args.x c.whole_under.result (yes c.if-x.true) (yes c.if-x-2.true) c.whole_under.ensures.0

pub returns-then-x : goal.returns-then-x
unfolding of_bits
returns-then-x c = (at_least c.args.x (yes c.well_formed.0.1) (yes c.if-x.true) (no c.if-x-2.false)).0

pub whole_over-requires : goal.whole_over-requires
unfolding of_bits neg
whole_over-requires c = (let p = neg-range c.args.x (yes c.if-x-3.true) (yes c.if-x-4.true) in record { above_zero = p.0; in_range = p.1 })

pub int_to_float-result-then-x-4 : goal.int_to_float-result-then-x-4
int_to_float-result-then-x-4 c = holds c.whole_over.result (omega (arith, c.whole_over.ensures.1))

pub returns-then-x-4 : goal.returns-then-x-4
unfolding of_bits neg
returns-then-x-4 c = floor-below c.args.x c.whole_over.result (yes c.if-x-3.true) (yes c.if-x-4.true) c.whole_over.ensures.0

pub returns-then-x-3 : goal.returns-then-x-3
unfolding of_bits neg
returns-then-x-3 c = (at_most c.args.x (yes c.well_formed.0.1) (yes c.if-x-3.true) (no c.if-x-4.false)).0

pub returns : goal.returns
unfolding of_bits
returns c = (neither c.args.x (yes c.well_formed.0.1) (no c.if-x.false) (no c.if-x-3.false)).0
