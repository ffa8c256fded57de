-- the check by value, and its trades stored in the log
use Rattle.std.proofs.Common.{arith}
use Rattle.lent.proofs.Checked.{check-fits, check-answers}
use Rattle.lent.proofs.uist.check.Goals as goal

pub shared_ref_as_front-store : goal.shared_ref_as_front-store
shared_ref_as_front-store c = (check-fits c.args.broker c.args.tradable.now c.args.fetched.now c.args.log.now c.of-t.ensures c.of-f.ensures c.check_in_place-checked.ensures).0

pub store-requires : goal.store-requires
store-requires c = omega (arith, (check-fits c.args.broker c.args.tradable.now c.args.fetched.now c.args.log.now c.of-t.ensures c.of-f.ensures c.check_in_place-checked.ensures).1)

pub returns : goal.returns
returns c = check-answers c.args.broker c.args.tradable.now c.args.fetched.now c.args.log.now c.of-t.ensures c.of-f.ensures c.check_in_place-checked.ensures _ c.store.ensures
