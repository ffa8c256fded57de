-- The plain ledger: document 01, section 6. It is fed the builder's arguments and the calls, and keeps nothing of the program's. Definitions only.
use Rattle.std.specs.Prelude.{ℕ, Bool, false, not, cond, ltb, Float, length}
use mathlib.Core.List.{List, [], ◌∷◌, ◌++◌, foldl}
use Rattle.std.specs.Prelude.{Option, None, Some, is_some}
use Rattle.std.specs.Float.Ieee.Scale.{finite}
use Rattle.lists.specs.Lists.{over, given}
use Rattle.market.specs.Faults.{Test, ◌draws◌, drawn, unless_drawn}
use Rattle.market.specs.declared.fault.Fault.{Fault}
use Rattle.market.specs.declared.fault.Fault.TheVariants.{BadValue, BrokerFailed, WithdrawFailed, ListTooShort}
use Rattle.market.specs.Orders.{zero64, event_of, order_tests}
use Rattle.market.specs.Quotes.{table_tests}
use Rattle.market.specs.Weights.{weight_rows}
use Rattle.market.specs.declared.order.Order.{Order}
use Rattle.market.specs.declared.quote.Quote.{Quote}
use Rattle.market.specs.declared.weight.Weight.{Weight}
use Rattle.costs.specs.declared.BrokerCost.{BrokerCost}
use Rattle.orders.specs.Orders.{plain, Orders, no_orders, book_width, room_for, take_on, erase, fills_of, tick}
use Rattle.rules.specs.Amounts.{plus, minus, negated, below}
use Rattle.rules.specs.Money.{Money, with_cash, fetch_one, fetched, settled, expected, failed_if}
use Rattle.rules.specs.Values.{total_value}
use Rattle.rules.specs.Sends.{send_tests}
use Rattle.rules.specs.Liquidation.{sales_for, debited_by, buffer}
use Rattle.rules.specs.Weights.{Plan, plan_of}
use Rattle.market.specs.declared.order.OrderEvent.{OrderEvent}
use Rattle.ledger.specs.Calls.{Call, deposit, withdraw, liquidate, send, send_list, insert, delete, check, update, Answer, fault, deposited, withdrawn, refused, event, events, traded, updated}

-- costs, the lot, latest quotes, cash, holdings, pending and Failed; the log length; its trades, and each order taken as waiting, resting, traded or deleted
pub record Ledger : Type 0 where
  pub room : ℕ
  pub money : Money
  pub orders : Orders

-- it starts as in section 4: the table's rows are the first latest quotes, Ready, cash 0.0, nothing held, pending, taken or logged
unfoldable pub start : List BrokerCost → ℕ → List Quote → ℕ → Ledger
start costs lot t room =
    record {
      room = room;
      money = record { costs = costs; lot = lot; latest = foldl fetch_one (λ n. None) t; failed = false; cash = zero64; held = λ n. None; pending = λ n. None };
      orders = no_orders;
    }

abbrev pub with_money : Ledger → Money → Ledger
with_money L m = record { room = L.room; money = m; orders = L.orders }

abbrev pub with_orders : Ledger → Orders → Ledger
with_orders L b = record { room = L.room; money = L.money; orders = b }

-- ---- orders: taken, by these fields

-- 10 and 11, by the orders and the log's length
abbrev pub room_tests : Ledger → List Test
room_tests L = room_for L.room book_width L.orders

-- send: an order that draws nothing is taken; it waits, and pending moves
unfoldable pub send_event : Ledger → Order → OrderEvent
send_event L o = event_of o (drawn (send_tests L.money (room_tests L) o))

unfoldable pub sending : Ledger → Order → Ledger
sending L o = unless_drawn (send_event L o).fault (record { room = L.room; money = expected o L.money; orders = take_on (plain o) L.orders }) L

abbrev pub sending_all : Ledger → List Order → Ledger
sending_all L l = foldl sending L l

unfoldable pub send_events : Ledger → List Order → List OrderEvent
send_events L [] = []
send_events L (o ∷ l) = send_event L o ∷ send_events (sending L o) l

-- insertion: the same by its own tests, pending kept
unfoldable pub insert_event : Ledger → Order → OrderEvent
insert_event L o = event_of o (drawn (order_tests o ++ room_tests L))

unfoldable pub inserting : Ledger → Order → Ledger
inserting L o = unless_drawn (insert_event L o).fault (with_orders L (take_on (plain o) L.orders)) L

-- ---- liquidation as in section 4, each of its orders going through the send above

unfoldable pub liquidating : Ledger → Float → Ledger
liquidating L a = given (sales_for L.money a) (with_money L (debited_by a L.money)) (sending_all L)

abbrev pub succeeds : Ledger → Float → Bool
succeeds L a = is_some (sales_for L.money a)

-- ---- a check

-- cash below zero liquidates -cash plus 1,000.0; failure sets Failed
abbrev pub shortfall : Ledger → Float
shortfall L = plus (negated L.money.cash) buffer

abbrev pub failed_unless : Bool → Ledger → Ledger
failed_unless ok L = with_money L (failed_if (not ok) L.money)

unfoldable pub rescuing : Ledger → Ledger
rescuing L = cond (below L.money.cash zero64) (failed_unless (succeeds L (shortfall L)) (liquidating L (shortfall L))) L

-- in book order, each resting order with a tradable row that meets its rule trades at that row; then the waiting ones are booked, and fetched rows become latest;
-- trade by trade, cash, holdings and pending move
abbrev pub booking : Ledger → List Quote → List Quote → Ledger
booking L t f =
    record {
      room = L.room;
      money = foldl settled (fetched f L.money) (fills_of t L.orders.booked);
      orders = tick t L.orders;
    }

unfoldable pub checking : Ledger → List Quote → List Quote → Ledger
checking L t f = rescuing (booking L t f)

-- ---- what a call draws before it acts, by the call and these fields; Unsound is not drawn

abbrev pub amount_tests : Float → List Test
amount_tests a = (not (finite a) draws BadValue) ∷ []

abbrev pub check_tests : List Quote → List Quote → List Test
check_tests t f = table_tests 0 t ++ table_tests 0 f

abbrev pub update_tests : List Quote → List Quote → List Weight → ℕ → List Test
update_tests t f w room = (ltb room (length w) draws ListTooShort) ∷ (check_tests t f ++ weight_rows 0 w)

unfoldable pub call_tests : Ledger → Call → List Test
call_tests L (deposit a) = amount_tests a ++ (L.money.failed draws BrokerFailed) ∷ []
call_tests L (withdraw a) = amount_tests a ++ (L.money.failed draws BrokerFailed) ∷ (below L.money.cash a draws WithdrawFailed) ∷ []
call_tests L (liquidate a) = amount_tests a
call_tests L (send o) = []
call_tests L (send_list l e) = (ltb (length e) (length l) draws ListTooShort) ∷ []
call_tests L (insert o) = []
call_tests L (delete n) = []
call_tests L (check t f) = check_tests t f
call_tests L (update t f w e) = update_tests t f w (length e)

-- ---- what a call does where those draw nothing

abbrev pub after_weights : Ledger → List Weight → Ledger
after_weights L w = sending_all L (plan_of L.money w).orders

unfoldable pub acting : Ledger → Call → Ledger
acting L (deposit a) = with_money L (with_cash L.money (plus a L.money.cash))
acting L (withdraw a) = with_money L (with_cash L.money (minus L.money.cash a))
acting L (liquidate a) = liquidating L a
acting L (send o) = sending L o
acting L (send_list l e) = sending_all L l
acting L (insert o) = inserting L o
acting L (delete n) = with_orders L (erase n L.orders)
acting L (check t f) = checking L t f
acting L (update t f w e) = after_weights (checking L t f) w

-- what is refused, by these fields, changes nothing
unfoldable pub step : Ledger → Call → Ledger
step L c = unless_drawn (drawn (call_tests L c)) (acting L c) L

-- ---- what a call answers, d being what it drew before acting

-- a plan that is refused lists no order: the check stands, the total is 0.0, and no event is written
abbrev pub weigh_answer : Ledger → Plan → List OrderEvent → Answer
weigh_answer L p e = updated p.fault (unless_drawn p.fault (total_value L.money) zero64) (length p.orders) (over (send_events L p.orders) e)

-- a cash mover: its success with the amount, or what it drew with the amount
abbrev pub moved_as : (Float → Answer) → Option Fault → Float → Answer
moved_as done d a = unless_drawn d (done a) (refused d a)

unfoldable pub answer_as : Option Fault → Ledger → Call → Answer
answer_as d L (deposit a) = moved_as deposited d a
answer_as d L (withdraw a) = moved_as withdrawn d a
answer_as d L (liquidate a) = moved_as withdrawn (unless_drawn d (cond (succeeds L a) None (Some WithdrawFailed)) d) a
answer_as d L (send o) = event (send_event L o)
answer_as d L (send_list l e) = events d (unless_drawn d (over (send_events L l) e) e)
answer_as d L (insert o) = event (insert_event L o)
answer_as d L (delete n) = fault d
answer_as d L (check t f) = traded d (unless_drawn d (length (fills_of t L.orders.booked)) 0)
answer_as d L (update t f w e) = unless_drawn d (weigh_answer (checking L t f) (plan_of (checking L t f).money w) e) (updated d zero64 0 e)

abbrev pub answer : Ledger → Call → Answer
answer L c = answer_as (drawn (call_tests L c)) L c

-- ---- a list of calls

unfoldable pub run : Ledger → List Call → Ledger
run L [] = L
run L (c ∷ cs) = run (step L c) cs

unfoldable pub answers : Ledger → List Call → List Answer
answers L [] = []
answers L (c ∷ cs) = answer L c ∷ answers (step L c) cs
