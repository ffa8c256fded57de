-- An update on the program's state: check, walk, send. Definitions only.
use Rattle.std.specs.Prelude.{◌≡◌, List, [], ◌∷◌, length, Option}
use Rattle.lists.specs.Lists.{over}
use Rattle.market.specs.Faults.{drawn, unless_drawn, first_drawn}
use Rattle.market.specs.declared.fault.Fault.{Fault}
use Rattle.market.specs.Orders.{zero64}
use Rattle.market.specs.Quotes.{row_at}
use Rattle.market.specs.declared.table.Table.{Table}
use Rattle.market.specs.declared.weight.Weight.{Weight}
use Rattle.exchange.specs.State.{resting_of}
use Rattle.exchange.specs.Tick.{trades_of, tick_of}
use Rattle.rules.specs.Values.{total_value}
use Rattle.rules.specs.Weights.{Plan, plan_of}
use Rattle.portfolio.specs.State.{money_of}
use Rattle.broker.specs.Lender.{broker_log_fault, short_test}
use Rattle.broker.specs.Send.{sent_all, events_of, no_events}
use Rattle.broker.specs.Check.{checked_by}
use Rattle.market.specs.Weights.{weighed}
use Rattle.broker.specs.declared.state.UistBroker.{UistBroker}
use Rattle.market.specs.declared.weight.Weights.{Weights}
use Rattle.broker.specs.declared.update.Lengths.{Lengths}
use Rattle.broker.specs.declared.update.Rebalanced.{Rebalanced}
use Rattle.broker.specs.declared.update.Updated.{Updated}

-- 16, 15, then the rows: tradable, fetched, weights
unfoldable pub update_fault : UistBroker → Lengths → Option Fault → Option Fault → Option Fault → Option Fault
update_fault b x tradable fetched weights =
    first_drawn (broker_log_fault b x.log)
    (first_drawn (drawn (short_test x.weights x.events ∷ []))
    (first_drawn tradable (first_drawn fetched weights)))

-- the orders of the weights after the check, and what they draw
abbrev pub plan_after : UistBroker → List Weight → Plan
plan_after b w = plan_of (money_of b.portfolio) w

unfoldable pub weighed_by : UistBroker → List Weight → UistBroker
weighed_by b w = sent_all b (plan_after b w).orders

-- an update in place: the state, and what it comes to beside it
abbrev pub updated_with : UistBroker → Rebalanced → Updated
updated_with b x =
    record { broker = b; trades = x.trades; count = x.count; first = x.first; events = x.events; sent = x.sent; total = x.total; fault = x.fault }

-- an update that is refused comes to no trades, of which the first places are those of the check's tick, and to no events
pub record RefusesUpdate (b : UistBroker) (t : Table) (fault : Option Fault) (r : Rebalanced) : Type 0 where
  pub trades : r.trades ≡ (tick_of b.exchange t).trades
  pub count : r.count ≡ 0
  pub first : r.first ≡ 0
  pub events : r.events ≡ no_events
  pub sent : r.sent ≡ 0
  pub total : r.total ≡ zero64
  pub drawn : r.fault ≡ fault

-- d is what is drawn before it acts; then what the plan draws, with which the check stands
pub record Updates (b : UistBroker) (t f : Table) (w : Weights) (x : Lengths) (d : Option Fault) (r : Updated) : Type 0 where
  pub before : d ≡ update_fault b x t.fault f.fault w.fault
  pub fault : r.fault ≡ first_drawn d (plan_after (checked_by b t f) (weighed w)).fault
  pub broker : r.broker ≡ unless_drawn d (weighed_by (checked_by b t f) (weighed w)) b
  pub trades : r.trades ≡ (tick_of b.exchange t).trades
  pub count : r.count ≡ unless_drawn d (length (trades_of (row_at t) (resting_of b.exchange))) 0
  pub first : r.first ≡ unless_drawn d b.exchange.counts.logged 0
  pub events : r.events ≡ unless_drawn d (over (events_of (checked_by b t f) (plan_after (checked_by b t f) (weighed w)).orders) no_events) no_events
  pub sent : r.sent ≡ unless_drawn d (length (plan_after (checked_by b t f) (weighed w)).orders) 0
  pub total : r.total ≡ unless_drawn d (unless_drawn (plan_after (checked_by b t f) (weighed w)).fault (total_value (money_of (checked_by b t f).portfolio)) zero64) zero64
