-- `UistBroker::send_all` meets its contract: the orders so far are sent, and their events written. Assumes nothing.
use mathlib.Core.Path.{◌≡◌}
use lib.ListN.{take}
use Rattle.lists.specs.Lists.{over}
use Rattle.broker.specs.Send.{SendsFit, sent_all, events_of, no_events}
use Rattle.broker.proofs.state.UistBroker.send_all.Given as goal

abbrev pub invariant-loop-i : goal.invariant-loop-i
invariant-loop-i l =
    record {
      sent : l.self ≡ sent_all l.fn.self (take l.i l.orders);
      told : l.events ≡ over (events_of l.fn.self (take l.i l.orders)) no_events;
      fits : SendsFit l.self.exchange.counts;
    }
