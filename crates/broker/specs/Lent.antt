-- The broker over lent lists: tables, weights and orders to be read; the log and the list for events to be written. Definitions only.
use Rattle.std.specs.Prelude.{ℕ, List, ◌∷◌, ◌++◌, Float, length, Option, Result}
use Rattle.lists.specs.Lists.{over, stored}
use Rattle.market.specs.Faults.{Test, drawn, unless_drawn, first_drawn}
use Rattle.market.specs.declared.fault.Fault.{Fault}
use Rattle.market.specs.Orders.{zero64}
use Rattle.market.specs.Quotes.{table_tests, table_of, row_at}
use Rattle.market.specs.Weights.{weight_rows}
use Rattle.market.specs.declared.order.Order.{Order}
use Rattle.market.specs.declared.quote.Quote.{Quote}
use Rattle.market.specs.declared.trade.Trade.{Trade}
use Rattle.market.specs.declared.weight.Weight.{Weight}
use Rattle.costs.specs.declared.TradeCosts.{TradeCosts}
use Rattle.exchange.specs.State.{resting_of}
use Rattle.exchange.specs.Tick.{trades_of}
use Rattle.rules.specs.Values.{total_value}
use Rattle.rules.specs.Weights.{Plan}
use Rattle.portfolio.specs.State.{money_of}
use Rattle.broker.specs.Build.{build_of}
use Rattle.broker.specs.Send.{sent_all, events_of}
use Rattle.portfolio.specs.Liquidate.{held_count}
use Rattle.broker.specs.Check.{checked_by, booked_by}
use Rattle.broker.specs.Update.{plan_after, weighed_by}
use Rattle.broker.specs.Lender.{log_test, short_test, lender_tests}
use Rattle.broker.specs.declared.state.UistBroker.{UistBroker}
use Rattle.market.specs.declared.order.OrderEvent.{OrderEvent}

abbrev pub build_for : TradeCosts → ℕ → List Quote → List Trade → Result UistBroker Fault
build_for costs lot first log = build_of costs lot (table_of first) (length log)

-- ---- a list of orders: 16, 15, then each order's own event

abbrev pub send_list_tests : UistBroker → List Order → List OrderEvent → List Test
send_list_tests b l e = lender_tests b (length l) (length e)

unfoldable pub send_list_fault : UistBroker → List Order → List OrderEvent → Option Fault
send_list_fault b l e = drawn (send_list_tests b l e)

unfoldable pub send_list_broker : UistBroker → List Order → List OrderEvent → UistBroker
send_list_broker b l e = unless_drawn (send_list_fault b l e) (sent_all b l) b

-- the events stand in the first places of the lent list, its old entries past them
unfoldable pub send_list_events : UistBroker → List Order → List OrderEvent → List OrderEvent
send_list_events b l e = unless_drawn (send_list_fault b l e) (over (events_of b l) e) e

-- ---- a check: 16, then the rows: tradable, fetched

unfoldable pub check_for : UistBroker → List Quote → List Quote → List Trade → Option Fault
check_for b t f log = drawn (log_test b log ∷ (table_tests 0 t ++ table_tests 0 f))

abbrev pub trades_in : UistBroker → List Quote → List Trade
trades_in b t = trades_of (row_at (table_of t)) (resting_of b.exchange)

-- the log with a check's trades after the old ones
abbrev pub log_with : UistBroker → List Quote → List Trade → List Trade
log_with b t log = stored log b.exchange.counts.logged (trades_in b t)

unfoldable pub check_broker : UistBroker → List Quote → List Quote → List Trade → UistBroker
check_broker b t f log = unless_drawn (check_for b t f log) (checked_by b (table_of t) (table_of f)) b

unfoldable pub check_traded : UistBroker → List Quote → List Quote → List Trade → ℕ
check_traded b t f log = unless_drawn (check_for b t f log) (length (trades_in b t)) 0

unfoldable pub check_log : UistBroker → List Quote → List Quote → List Trade → List Trade
check_log b t f log = unless_drawn (check_for b t f log) (log_with b t log) log

-- what the free count of sells queued is at most: how many symbols are held once the trades are booked; 0 where something is drawn
unfoldable pub held_after : UistBroker → List Quote → List Quote → List Trade → ℕ
held_after b t f log = unless_drawn (check_for b t f log) (held_count (money_of (booked_by b (table_of t) (table_of f)).portfolio)) 0

-- ---- an update: 16, 15, then the rows: tradable, fetched, weights; then 13, 18

unfoldable pub update_for : UistBroker → List Quote → List Quote → List Weight → List OrderEvent → List Trade → Option Fault
update_for b t f w e log = drawn (log_test b log ∷ short_test (length w) (length e) ∷ ((table_tests 0 t ++ table_tests 0 f) ++ weight_rows 0 w))

abbrev pub checked_on : UistBroker → List Quote → List Quote → UistBroker
checked_on b t f = checked_by b (table_of t) (table_of f)

abbrev pub plan_on : UistBroker → List Quote → List Quote → List Weight → Plan
plan_on b t f w = plan_after (checked_on b t f) w

unfoldable pub update_fault_of : UistBroker → List Quote → List Quote → List Weight → List OrderEvent → List Trade → Option Fault
update_fault_of b t f w e log = first_drawn (update_for b t f w e log) (plan_on b t f w).fault

unfoldable pub update_broker : UistBroker → List Quote → List Quote → List Weight → List OrderEvent → List Trade → UistBroker
update_broker b t f w e log = unless_drawn (update_for b t f w e log) (weighed_by (checked_on b t f) w) b

-- it answers `get_total_value` and the number of events
unfoldable pub update_total : UistBroker → List Quote → List Quote → List Weight → List OrderEvent → List Trade → Float
update_total b t f w e log =
    unless_drawn (update_for b t f w e log) (unless_drawn (plan_on b t f w).fault (total_value (money_of (checked_on b t f).portfolio)) zero64) zero64

unfoldable pub update_sent : UistBroker → List Quote → List Quote → List Weight → List OrderEvent → List Trade → ℕ
update_sent b t f w e log = unless_drawn (update_for b t f w e log) (length (plan_on b t f w).orders) 0

unfoldable pub update_events : UistBroker → List Quote → List Quote → List Weight → List OrderEvent → List Trade → List OrderEvent
update_events b t f w e log = unless_drawn (update_for b t f w e log) (over (events_of (checked_on b t f) (plan_on b t f w).orders) e) e

unfoldable pub update_log : UistBroker → List Quote → List Quote → List Weight → List OrderEvent → List Trade → List Trade
update_log b t f w e log = unless_drawn (update_for b t f w e log) (log_with b t log) log
