-- `lot::floor_to_lot` meets its contract: its tests select the answer of `lot_shares`, and a NaN passes neither test of the bound.
-- These compare x with numbers by their bit patterns, which are -2 ^ 52 and 2 ^ 52 once `of_bits` is unfolded. Assumes nothing.
use Rattle.std.proofs.Common.{ap, ◌∙◌}
use Rattle.std.specs.declared.option.Option.TheVariants.{Some}
use lib.Ieee.{of_bits, neg}
use Rattle.floats.proofs.Cut.{yes, no}
use Rattle.floats.proofs.Multiples.{within, too-low, too-high, of_one, of-lot, of_none}
use Rattle.floats.proofs.lot.floor_to_lot.Goals as goal
use Rattle.floats.proofs.lot.floor_to_lot.Goals.{else-x-via-then-x+else-x-2, else-x-via-else-x}

pub returns-then-lot-le1 : goal.returns-then-lot-le1
returns-then-lot-le1 c = ap Some c.floor.ensures ∙ of_one c.args.lot c.args.x c.if-lot-le1.true

pub floor-requires-then-x-2 : goal.floor-requires-then-x-2
unfolding of_bits neg
floor-requires-then-x-2 c = record { above_least = yes c.if-x.true; below_most = yes c.if-x-2.true }

pub returns-then-x-2 : goal.returns-then-x-2
unfolding of_bits neg
returns-then-x-2 c = ap Some c.floor-then-x-2.ensures ∙ of-lot c.args.lot c.args.x c.if-lot-le1.false (within c.args.x (yes c.if-x.true) (yes c.if-x-2.true))

pub returns-else-x : goal.returns-else-x
unfolding of_bits neg
returns-else-x c = elim c.else-x.branch [
  | else-x-via-then-x+else-x-2 w ↦ of_none c.args.lot c.args.x c.if-lot-le1.false (too-high c.args.x (no w.if-x-2.false))
  | else-x-via-else-x w ↦ of_none c.args.lot c.args.x c.if-lot-le1.false (too-low c.args.x (no w.if-x.false))
]
