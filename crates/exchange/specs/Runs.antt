-- Lists of an exchange's calls: the program's own definitions beside the plain ledger's orders, fed the same calls. Definitions only.
use Rattle.std.specs.Prelude.{◌≡◌, ℕ, suc, Bool, false, List, [], ◌∷◌, ◌++◌, length, take, ◌==◌}
use Rattle.std.specs.Prelude.{Option, None, Some}
use Rattle.lists.specs.Lists.{over}
use Rattle.market.specs.Faults.{Test, drawn, unless_drawn}
use Rattle.market.specs.declared.fault.Fault.{Fault}
use Rattle.market.specs.Orders.{order_tests}
use Rattle.market.specs.Quotes.{table_tests}
use Rattle.market.specs.declared.order.Order.{Order}
use Rattle.market.specs.declared.quote.Quote.{Quote}
use Rattle.market.specs.declared.trade.Trade.{Trade}
use Rattle.orders.specs.Orders as Ledger
use Rattle.orders.specs.Orders.{Taken, plain, orders_of, Fate, resting, ended, Entry, Orders, no_orders, book_width, room_for, take_on, erase, fills_of}
use Rattle.orders.specs.Claim.{Calls, Lived}
use Rattle.exchange.specs.State.{booked_as, log_test, resting_of, waiting_of}
use Rattle.exchange.specs.Insert.{insert_of}
use Rattle.exchange.specs.Delete.{delete_of}
use Rattle.exchange.specs.Lent.{open_of, lent_tick, lent_log}
use Rattle.exchange.specs.declared.state.Booked.{Booked}
use Rattle.exchange.specs.declared.state.UistV1.{UistV1}

-- an exchange's calls
pub data Call : Type 0 where
  insert : Order → Call
  delete : ℕ → Call
  tick : List Quote → Call

-- what a call answers: how many orders traded, and what was drawn
pub record Answer : Type 0 where
  pub traded : ℕ
  pub fault : Option Fault

-- ---- the program: each call finds the exchange and the log as the last call left them

pub record Held : Type 0 where
  pub exchange : UistV1
  pub log : List Trade

abbrev pub opened : List Trade → Held
opened log = record { exchange = open_of log; log = log }

abbrev pub step : Held → Call → Held
step s (insert o) = record { exchange = (insert_of s.exchange o).state; log = s.log }
step s (delete n) = record { exchange = (delete_of s.exchange n).state; log = s.log }
step s (tick rows) = record { exchange = (lent_tick s.exchange rows s.log).exchange; log = lent_log s.exchange rows s.log }

abbrev pub answer : Held → Call → Answer
answer s (insert o) = record { traded = 0; fault = (insert_of s.exchange o).fault }
answer s (delete n) = record { traded = 0; fault = (delete_of s.exchange n).fault }
answer s (tick rows) =
    let r = lent_tick s.exchange rows s.log in
    record { traded = r.traded; fault = r.fault }

abbrev pub run : Held → List Call → Held
run s [] = s
run s (c ∷ cs) = run (step s c) cs

abbrev pub answers : Held → List Call → List Answer
answers s [] = []
answers s (c ∷ cs) = answer s c ∷ answers (step s c) cs

-- ---- the ledger, for a log of `room` rows

-- 1, 2, 10, 11, by the ledger's fields
abbrev pub take_tests : ℕ → Orders → Order → List Test
take_tests room b o = order_tests o ++ room_for room book_width b

abbrev pub ledger_step : ℕ → Orders → Call → Orders
ledger_step room b (insert o) = unless_drawn (drawn (take_tests room b o)) (take_on (plain o) b) b
ledger_step room b (delete n) = erase n b
ledger_step room b (tick rows) = unless_drawn (drawn (table_tests 0 rows)) (Ledger.tick rows b) b

-- the orders that a call takes: an insertion that draws nothing
abbrev pub takes_in : ℕ → Orders → Call → List Taken
takes_in room b (insert o) = unless_drawn (drawn (take_tests room b o)) (plain o ∷ []) []
takes_in room b (delete n) = []
takes_in room b (tick rows) = []

abbrev pub ledger_answer : ℕ → Orders → Call → Answer
ledger_answer room b (insert o) = record { traded = 0; fault = drawn (take_tests room b o) }
ledger_answer room b (delete n) = record { traded = 0; fault = None }
ledger_answer room b (tick rows) =
    record { traded = unless_drawn (drawn (table_tests 0 rows)) (length (fills_of rows b.booked)) 0; fault = drawn (table_tests 0 rows) }

abbrev pub ledger_run : ℕ → Orders → List Call → Orders
ledger_run room b [] = b
ledger_run room b (c ∷ cs) = ledger_run room (ledger_step room b c) cs

abbrev pub ledger_answers : ℕ → Orders → List Call → List Answer
ledger_answers room b [] = []
ledger_answers room b (c ∷ cs) = ledger_answer room b c ∷ ledger_answers room (ledger_step room b c) cs

-- ---- the claim

-- a tick is unrefused by its rows alone
abbrev pub tradable : Call → Option (List Quote)
tradable (insert o) = None
tradable (delete n) = None
tradable (tick rows) = unless_drawn (drawn (table_tests 0 rows)) (Some rows) None

abbrev pub deletes : ℕ → Call → Bool
deletes n (insert o) = false
deletes n (delete m) = n == m
deletes n (tick rows) = false

abbrev pub exchange_calls : Calls
exchange_calls = record { Call = Call; tradable = tradable; deletes = deletes }

-- the ledger's resting orders with their numbers
abbrev pub rest_of : Fate → ℕ → Order → List Booked → List Booked
rest_of resting n o l = booked_as n o ∷ l
rest_of (ended x) n o l = l

abbrev pub resting_from : ℕ → List Entry → List Booked
resting_from n [] = []
resting_from n (e ∷ l) = rest_of e.fate n e.taken.order (resting_from (suc n) l)

-- after a list of calls from the start, for a log of `room` rows
abbrev pub ledger_after : ℕ → List Call → Orders
ledger_after room cs = ledger_run room no_orders cs

-- the orders that a call takes after the calls before it
abbrev pub takes_after : ℕ → List Call → Call → List Taken
takes_after room past c = takes_in room (ledger_after room past) c

-- what holds of every list of calls on a fresh exchange for the log l₀:
-- each order taken waits until the next tick, which books it, and has traded exactly when it could, once, in the first tick that could trade it, at that row,
-- and the trades are these, tick by tick;
-- every answer is the ledger's; the log has the trades in order, then its old rows, and the rows that count as logged are the trades and no others;
-- the resting orders with their numbers and the waiting ones are the ledger's; no call that follows draws 16
pub record ExchangeRun (l₀ : List Trade) (cs : List Call) : Type 0 where
  pub lived : Lived exchange_calls (takes_after (length l₀)) (ledger_after (length l₀)) cs
  pub answered : answers (opened l₀) cs ≡ ledger_answers (length l₀) no_orders cs
  pub log : (run (opened l₀) cs).log ≡ over (ledger_after (length l₀) cs).trades l₀
  pub logged : take (run (opened l₀) cs).exchange.counts.logged (run (opened l₀) cs).log ≡ (ledger_after (length l₀) cs).trades
  pub rest : resting_of (run (opened l₀) cs).exchange ≡ resting_from 0 (ledger_after (length l₀) cs).booked
  pub wait : waiting_of (run (opened l₀) cs).exchange ≡ orders_of (ledger_after (length l₀) cs).waiting
  pub sound : drawn (log_test (run (opened l₀) cs).exchange.counts (length (run (opened l₀) cs).log) ∷ []) ≡ None
