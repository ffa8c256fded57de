-- the update by value, its trades stored in the log and its events in their list
use Rattle.lent.proofs.Updated.{log-fits, events-fit, update-answers}
use Rattle.lent.proofs.uist.update.Goals as goal

pub shared_ref_as_front-store : goal.shared_ref_as_front-store
shared_ref_as_front-store c =
    (log-fits c.args.broker c.args.tradable.now c.args.fetched.now c.args.weights.now c.args.events.now c.args.log.now c.of-t.ensures c.of-f.ensures c.of-w.ensures
    c.update_in_place-updated.ensures).0

pub store-requires : goal.store-requires
store-requires c =
    (log-fits c.args.broker c.args.tradable.now c.args.fetched.now c.args.weights.now c.args.events.now c.args.log.now c.of-t.ensures c.of-f.ensures c.of-w.ensures
    c.update_in_place-updated.ensures).1

pub shared_ref_as_front-store-2 : goal.shared_ref_as_front-store-2
shared_ref_as_front-store-2 c =
    (events-fit c.args.broker c.args.tradable.now c.args.fetched.now c.args.weights.now c.args.events.now c.args.log.now c.of-t.ensures c.of-f.ensures c.of-w.ensures
    c.update_in_place-updated.ensures).0

pub store-requires-2 : goal.store-requires-2
store-requires-2 c =
    (events-fit c.args.broker c.args.tradable.now c.args.fetched.now c.args.weights.now c.args.events.now c.args.log.now c.of-t.ensures c.of-f.ensures c.of-w.ensures
    c.update_in_place-updated.ensures).1

pub returns : goal.returns
returns c =
    update-answers c.args.broker c.args.tradable.now c.args.fetched.now c.args.weights.now c.args.events.now c.args.log.now c.of-t.ensures c.of-f.ensures c.of-w.ensures
    c.update_in_place-updated.ensures _ _ c.store-2.ensures c.store.ensures
