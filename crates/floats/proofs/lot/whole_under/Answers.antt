-- `lot::whole_under` meets its contract: a value below 2 ^ 52 is cut to its whole part, which is below 2 ^ 52 too. Assumes nothing.
use Rattle.std.proofs.Common.{◌∙◌, arith}
use Rattle.floats.proofs.Cut.{trunc-asks, trunc-small}
use Rattle.floats.proofs.Multiples.{whole_part}
use Rattle.floats.proofs.lot.whole_under.Goals as goal

pub truncating_f64_to_u64-requires : goal.truncating_f64_to_u64-requires
truncating_f64_to_u64-requires c = (let p = trunc-asks c.args.a c.requires.above_zero c.requires.in_range in record { lower_bound = p.0; upper_bound = p.1 })

pub returns : goal.returns
returns c = (c.truncating_f64_to_u64.ensures ∙ whole_part c.args.a c.requires.above_zero c.requires.in_range, omega (arith, c.truncating_f64_to_u64.ensures, trunc-small c.args.a c.requires.above_zero c.requires.in_range))
