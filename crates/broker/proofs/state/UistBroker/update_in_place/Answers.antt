-- `UistBroker::update_in_place` meets its contract, part by part: each is a smaller goal than the whole. Assumes nothing.
use native.Mathlib.Omega.{arith}
use mathlib.Core.Path.{refl}
use Rattle.std.proofs.lemmas.Grind.{common_steps}
use Rattle.portfolio.specs.Lists.{no_orders}
use Rattle.broker.specs.Update.{weighed_by}
use Rattle.broker.proofs.Updating.{update-none}
use Rattle.broker.proofs.state.UistBroker.update_in_place.Goals as goal

pub returns : goal.returns
unfolding weighed_by no_orders
returns c =
    let t = c.args.tradable.now.table in
    let f = c.args.fetched.now.table in
    let none = update-none c.args.self.now c.args.x t.fault f.fault c.args.weights.now.fault in
    record {
      before = refl;
      fault = grind (arith, common_steps, none);
      broker = grind (arith, common_steps, none);
      trades = c.check_in_place-count.ensures.trades;
      count = grind (arith, common_steps, none);
      first = grind (arith, common_steps, none);
      events = grind (arith, common_steps, none);
      sent = grind (arith, common_steps, none);
      total = grind (arith, common_steps, none);
    }
