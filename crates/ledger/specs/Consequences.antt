-- Two consequences of demand 3 about the program's own log: no order trades in the call that took it or in the check that booked it, and no order has two rows.
-- Definitions only.
use Rattle.std.specs.Prelude.{ℕ, ◌≡◌, List, [], ◌∷◌, ◌++◌, length, take}
use Rattle.market.specs.declared.quote.Quote.{Quote}
use Rattle.market.specs.declared.trade.Trade.{Trade}
use Rattle.costs.specs.declared.TradeCosts.{TradeCosts}
use Rattle.orders.specs.Orders.{Taken}
use Rattle.orders.specs.Claim.{Within, OneRowEach, BookedBy, TradeOfBooked}
use Rattle.exchange.specs.State.{resting_of, waiting_of}
use Rattle.exchange.specs.declared.state.Booked.{Booked}
use Rattle.exchange.specs.declared.state.UistV1.{UistV1}
use Rattle.ledger.specs.Calls.{Call}
use Rattle.ledger.specs.Program as Program
use Rattle.ledger.specs.Program.{Held, built}
use Rattle.ledger.specs.Demand.{broker_calls, orders_after, takes_after}

module _ (costs : TradeCosts) (lot : ℕ) (first : List Quote) (l₀ : List Trade) where
  -- the program after a list of calls: its book, and the rows of its log from the first to the newest
  abbrev pub held_after : List Call → Held
  held_after cs = Program.run (built costs lot first l₀) cs

  abbrev pub book_after : List Call → UistV1
  book_after cs = (held_after cs).broker.exchange

  abbrev pub rows_after : List Call → List Trade
  rows_after cs = take (book_after cs).counts.logged (held_after cs).log

  -- the call c after the calls `past`. No order trades in the call that took it or in the check that booked it, so none on the quote that gave rise to it
  pub record NeverAtOnce (past : List Call) (c : Call) : Type 0 where
    -- the rows that the call adds to the log are trades of orders that earlier calls had booked
    pub added : List Trade
    pub log-grows : rows_after (past ++ (c ∷ [])) ≡ rows_after past ++ added
    pub of-booked : (x : Trade) → Within x added → TradeOfBooked broker_calls (takes_after costs lot first (length l₀)) (orders_after costs lot first (length l₀)) past c x
    -- what the call took waits after it
    pub taken-waits : (w : Taken) → Within w (takes_after costs lot first (length l₀) past c) → Within w.order (waiting_of (book_after (past ++ (c ∷ []))))
    -- what the call booked rests after it, under its number
    pub booked-rests : (n : ℕ) → BookedBy broker_calls (takes_after costs lot first (length l₀)) (orders_after costs lot first (length l₀)) past c n →
        (b : Booked) × (b.id ≡ n) × Within b (resting_of (book_after (past ++ (c ∷ []))))

  -- the rows of the log and the orders that have traded match one to one
  abbrev pub NoTwoRows : List Call → Type 0
  NoTwoRows cs = OneRowEach (rows_after cs) (orders_after costs lot first (length l₀) cs).booked
