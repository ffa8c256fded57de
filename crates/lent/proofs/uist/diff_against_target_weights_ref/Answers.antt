-- the walk by value, and its orders stored in the list
use Rattle.std.proofs.Common.{rules}
use Rattle.lent.proofs.Plans.{walk-fits, walk-lists, walk-refused}
use Rattle.lent.proofs.uist.diff_against_target_weights_ref.Goals as goal

pub returns-in_err-listed : goal.returns-in_err-listed
returns-in_err-listed c = let w = walk-refused c.args.broker.now c.args.weights.now c.args.orders.now c.of-w.ensures c.in_err-listed.field-0.0 c.in_err-listed.ensures.plan in search rules

pub store-requires : goal.store-requires
store-requires c = let w = walk-fits c.args.broker.now c.args.weights.now c.args.orders.now c.of-w.ensures c.in_ok-listed.listed c.in_ok-listed.ensures.plan in search rules

pub returns : goal.returns
returns c = let w = walk-lists c.args.broker.now c.args.weights.now c.args.orders.now c.of-w.ensures c.in_ok-listed.listed c.in_ok-listed.ensures.plan in search rules
