-- A tick: document 01, section 3. Definitions only.
use Rattle.std.specs.Prelude.{ℕ, ◌+◌, ◌-◌, ◌%◌, ◌^◌, Bool, true, false, List, [], ◌∷◌, ◌++◌, map, length, take, drop, replicate}
use Rattle.std.specs.Prelude.{Option, None}
use Rattle.lists.specs.Lists.{over, keep, gather, given, holds}
use Rattle.market.specs.Faults.{unless_drawn, first_drawn}
use Rattle.market.specs.declared.fault.Fault.{Fault}
use Rattle.market.specs.Quotes.{row_at}
use Rattle.market.specs.Trades.{blank_trade, trade_on}
use Rattle.market.specs.declared.order.Order.{Order}
use Rattle.market.specs.declared.quote.Quote.{Quote}
use Rattle.market.specs.declared.table.Table.{Table}
use Rattle.market.specs.declared.trade.Trade.{Trade}
-- sells first, then buys, each in order of taking: as the plain ledger books them
pub use Rattle.orders.specs.Orders.{of_side, sells_first}
use Rattle.exchange.specs.State.{booked_as, broken_fault, log_fault, resting_of, waiting_of}
use Rattle.exchange.specs.declared.state.Booked.{Booked}
use Rattle.exchange.specs.declared.state.Counts.{Counts}
use Rattle.exchange.specs.declared.state.UistV1.{UistV1}
use Rattle.exchange.specs.declared.tick.Tally.{Tally}
use Rattle.exchange.specs.declared.tick.Numbered.{Numbered}
use Rattle.exchange.specs.declared.tick.Traded.{Traded}
use Rattle.exchange.specs.declared.tick.Ticked.{Ticked}
use Rattle.exchange.specs.declared.tick.TickAnswer.{TickAnswer}

unfoldable pub no_trades : List Trade
no_trades = replicate 1024 blank_trade

-- ---- trading. A table is what it has for each symbol: `row_at t`, or `row_for l` of a list of rows

-- the trade of a booked order on the row for its symbol, where it makes one
abbrev pub trade_at : (ℕ → Option Quote) → Order → Option Trade
trade_at rows o = trade_on (rows o.symbol) o

-- a booked order that makes no trade stays
abbrev pub stays : (ℕ → Option Quote) → Booked → Bool
stays rows b = given (trade_at rows b.order) true (λ x. false)

-- the trades of booked orders, in book order
abbrev pub trades_of : (ℕ → Option Quote) → List Booked → List Trade
trades_of rows l = gather (λ b. holds (trade_at rows b.order)) l

-- the book after it, with the orders that stay, how many these are, the trades of the others, and how many these are
pub record Executed : Type 0 where
  pub book : List Booked
  pub kept : ℕ
  pub trades : List Trade
  pub count : ℕ

abbrev pub executed : List Booked → Tally → List Trade → Executed
executed book n trades = record { book = book; kept = n.kept; trades = trades; count = n.count }

unfoldable pub execute_of : List Booked → ℕ → Table → Executed
execute_of book resting t =
    let l = take resting book in
    record {
      book = over (keep (stays (row_at t)) l) book;
      kept = length (keep (stays (row_at t)) l);
      trades = over (trades_of (row_at t) l) no_trades;
      count = length (trades_of (row_at t) l);
    }

-- ---- booking

-- the orders from one place of a book to another
abbrev pub orders_in : List Booked → ℕ → ℕ → List Order
orders_in book from until = map (λ b. b.order) (take (until - from) (drop from book))

-- the orders of one side among these
abbrev pub side_of : Bool → List Booked → List Order
side_of sells l = of_side sells (map (λ b. b.order) l)

-- the counter's next number: one more, modulo 2 ^ 64, which the length of no log reaches
abbrev pub next : ℕ → ℕ
next n = (n + 1) % 2 ^ 64

-- the orders numbered from n on, and the counter after them
abbrev pub number_from : ℕ → List Order → List Booked
number_from n [] = []
number_from n (o ∷ l) = booked_as n o ∷ number_from (next n) l

abbrev pub counter_after : ℕ → List Order → ℕ
counter_after n [] = n
counter_after n (o ∷ l) = counter_after (next n) l

-- a book, how many of its orders rest, and how many numbers were given
pub record Booking : Type 0 where
  pub book : List Booked
  pub at : ℕ
  pub ids : ℕ

abbrev pub booking : List Booked → Numbered → Booking
booking book n = record { book = book; at = n.at; ids = n.ids }

-- a book with these orders behind those that rest
unfoldable pub book_side_of : Booking → List Order → Booking
book_side_of b l =
    record {
      book = over (take b.at b.book ++ number_from b.ids l) b.book;
      at = b.at + length l;
      ids = counter_after b.ids l;
    }

unfoldable pub book_waiting_of : List Booked → ℕ → ℕ → Booking → Booking
book_waiting_of old from waits b = book_side_of b (sells_first (orders_in old from (from + waits)))

-- ---- the tick

-- the book after a tick: what stays, then what waited, numbered from the counter
abbrev pub ticked_book : UistV1 → (ℕ → Option Quote) → List Booked
ticked_book e rows = keep (stays rows) (resting_of e) ++ number_from e.counts.ids (sells_first (waiting_of e))

-- the counts after a tick: all that is booked rests, and the trades are logged
abbrev pub counts_after : Counts → ℕ → ℕ → ℕ → Counts
counts_after c resting upto count =
    record { resting = resting; waits = 0; ids = upto; taken = c.taken; logged = c.logged + count; room = c.room }

-- a tick first trades booked orders in book order, then books the waiting ones
unfoldable pub ticked : UistV1 → (ℕ → Option Quote) → UistV1
ticked e rows =
    let c = e.counts in
    record {
      book = over (ticked_book e rows) e.book;
      counts = counts_after c (length (ticked_book e rows)) (counter_after c.ids (sells_first (waiting_of e))) (length (trades_of rows (resting_of e)));
    }

-- what comes with a refusal: the state as it was, and no trades
abbrev pub refused_with : UistV1 → Option Fault → Ticked
refused_with e n = record { exchange = e; trades = no_trades; count = 0; first = 0; fault = n }

abbrev pub tick_done : UistV1 → (ℕ → Option Quote) → Ticked
tick_done e rows =
    record {
      exchange = ticked e rows;
      trades = over (trades_of rows (resting_of e)) no_trades;
      count = length (trades_of rows (resting_of e));
      first = e.counts.logged;
      fault = None;
    }

-- a tick in place: the state, and what it tells beside it
abbrev pub ticked_with : UistV1 → Traded → Ticked
ticked_with e x = record { exchange = e; trades = x.trades; count = x.count; first = x.first; fault = x.fault }

-- 16, then what the table's rows drew
abbrev pub tick_fault : UistV1 → Option Fault → Option Fault
tick_fault e fault = first_drawn (broken_fault e.counts) fault

unfoldable pub tick_of : UistV1 → Table → Ticked
tick_of e t =
    let n = tick_fault e t.fault in
    unless_drawn n (tick_done e (row_at t)) (refused_with e n)

-- 16 also where the log has another length than at the start
unfoldable pub tick_for_of : UistV1 → Table → ℕ → Ticked
unfolding tick_of
tick_for_of e t n = let m = log_fault e.counts n in unless_drawn m (tick_of e t) (refused_with e m)

abbrev pub answer_of : Ticked → TickAnswer
answer_of x = record { exchange = x.exchange; traded = x.count; fault = x.fault }
