-- Sends, direct insertions and deletions on the program's state. Definitions only.
use Rattle.std.specs.Prelude.{ℕ, ◌+◌, ◌≤◌, ◌%◌, cond, get_or, set, replicate}
use Rattle.std.specs.Prelude.{None, Some}
use mathlib.Core.List.{List, [], ◌∷◌, foldl}
use Rattle.market.specs.Faults.{drawn, unless_drawn}
use Rattle.market.specs.declared.fault.After.{After}
use Rattle.market.specs.declared.fault.Fault.TheVariants.{Unsound}
use Rattle.market.specs.Orders.{blank_order, event_of}
use Rattle.market.specs.declared.order.Order.{Order}
use Rattle.exchange.specs.State.{room_of}
use Rattle.exchange.specs.Insert as Exchange
use Rattle.exchange.specs.Insert.{joined}
use Rattle.exchange.specs.Delete as Deletion
use Rattle.exchange.specs.declared.state.Counts.{Counts}
use Rattle.rules.specs.Sends.{send_tests}
use Rattle.portfolio.specs.State.{money_of}
use Rattle.portfolio.specs.declared.state.Funds.{Funds}
use Rattle.sender.specs.Sender.{pending_after}
use Rattle.broker.specs.Lender.{broken}
use Rattle.broker.specs.declared.state.UistBroker.{UistBroker}
use Rattle.market.specs.declared.order.OrderEvent.{OrderEvent}
use Rattle.broker.specs.declared.state.Told.{Told}

-- an order's event: 1, 2, 4 to 9 by the rules on what the broker holds, 10 and 11 by the exchange's counts
unfoldable pub event_for : UistBroker → Order → OrderEvent
event_for b o = event_of o (drawn (send_tests (money_of b.portfolio) (room_of b.exchange.counts) o))

-- pending moves at the order's symbol
abbrev pub expecting : Funds → Order → Funds
expecting f o =
    let s = o.symbol % 256 in
    record {
      holding = f.holding;
      pending = set f.pending s (Some (pending_after o (get_or f.pending s None)));
      cash = f.cash;
      failed = f.failed;
    }

abbrev pub with_funds : UistBroker → Funds → UistBroker
with_funds b f = record { exchange = b.exchange; portfolio = record { latest = b.portfolio.latest; funds = f; costs = b.portfolio.costs; lot = b.portfolio.lot } }

-- an order that is taken waits on the exchange, and pending moves
abbrev pub taken_by : UistBroker → Order → UistBroker
taken_by b o =
    record {
      exchange = joined b.exchange o;
      portfolio = record { latest = b.portfolio.latest; funds = expecting b.portfolio.funds o; costs = b.portfolio.costs; lot = b.portfolio.lot };
    }

unfoldable pub sent_one : UistBroker → Order → UistBroker
sent_one b o = unless_drawn (event_for b o).fault (taken_by b o) b

-- a list's orders one after the other, and their events
abbrev pub sent_all : UistBroker → List Order → UistBroker
sent_all b l = foldl sent_one b l

unfoldable pub events_of : UistBroker → List Order → List OrderEvent
events_of b [] = []
events_of b (o ∷ l) = event_for b o ∷ events_of (sent_one b o) l

unfoldable pub no_events : List OrderEvent
no_events = replicate 256 (event_of blank_order None)

-- what counts must obey for sends to be booked in place: a tick keeps it, where it need not keep all that 16 asks
pub record SendsFit (c : Counts) : Type 0 where
  pub places : c.resting + c.waits ≤ 1024
  pub rows : c.taken ≤ c.room

-- a send in place: the broker, and the event beside it
abbrev pub sent_with : UistBroker → OrderEvent → Told OrderEvent
sent_with b e = record { broker = b; event = e }

-- 16, then the order's own event
unfoldable pub send_of : UistBroker → Order → Told OrderEvent
send_of b o =
    cond (broken b)
    (record { broker = b; event = event_of o (Some Unsound) })
    (record { broker = sent_one b o; event = event_for b o })

-- direct insertions and deletions do not touch pending; 16, then what the exchange makes of them
unfoldable pub insert_of : UistBroker → Order → Told OrderEvent
insert_of b o =
    let r = Exchange.insert_of b.exchange o in
    cond (broken b)
    (record { broker = b; event = event_of o (Some Unsound) })
    (record { broker = record { exchange = r.state; portfolio = b.portfolio }; event = event_of o r.fault })

unfoldable pub delete_of : UistBroker → ℕ → After UistBroker
delete_of b n =
    let r = Deletion.delete_of b.exchange n in
    cond (broken b)
    (record { state = b; fault = Some Unsound })
    (record { state = record { exchange = r.state; portfolio = b.portfolio }; fault = r.fault })
