-- `UistBroker::check_in_place` meets its contract, part by part: each is a smaller goal than the whole. Assumes nothing.
use native.Mathlib.Omega.{arith}
use mathlib.Core.Path.{ap}
use Rattle.std.proofs.lemmas.Grind.{common_steps}
use Rattle.exchange.specs.declared.tick.Ticked.{Ticked}
use Rattle.exchange.specs.State.{resting_of}
use Rattle.exchange.specs.Tick.{trades_of}
use Rattle.market.specs.Quotes.{row_at}
use Rattle.broker.specs.Check.{checked_by}
use Rattle.broker.proofs.Settling.{tick_acts, listed_trades}
use Rattle.broker.proofs.state.UistBroker.check_in_place.Goals as goal

pub returns : goal.returns
unfolding checked_by
returns c =
    let b = c.args.self.now in
    let t = c.args.tradable.now.table in
    let acts = tick_acts b t c.args.log_length c.args.fetched.now.table.fault in
    let listed = listed_trades (trades_of (row_at t) (resting_of b.exchange)) in
    record {
      fault = c.check_fault-fault.ensures;
      broker = grind (arith, common_steps, acts, listed);
      trades = ap (λ (x : Ticked). x.trades) c.tick_in_place-count.ensures;
      count = grind (arith, common_steps, acts);
      first = grind (arith, common_steps, acts);
      queued = grind (arith, common_steps, acts, listed);
    }
