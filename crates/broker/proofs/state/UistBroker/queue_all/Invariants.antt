-- `UistBroker::queue_all` meets its contract: the orders so far are sent, and what is left fits. Assumes nothing.
use Prim.Native.Nat.{◌≤◌}
use mathlib.Core.Path.{◌≡◌}
use lib.ListN.{take}
use Rattle.broker.specs.Send.{SendsFit, sent_all}
use Rattle.broker.proofs.state.UistBroker.queue_all.Given as goal

abbrev pub invariant-loop-o : goal.invariant-loop-o
invariant-loop-o l =
    record {
      sent : l.self ≡ sent_all l.fn.self (take l.o-index l.orders);
      few : l.taken ≤ l.o-index;
      fits : SendsFit l.self.exchange.counts;
    }
