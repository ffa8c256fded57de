-- Cases of document 01, section 4, by the plain ledger's calls one after the other: checks, shortfalls, and what a Failed broker refuses. Definitions only.
use Rattle.std.specs.Prelude.{ℕ, Bool, true, false, List, [], ◌∷◌, map, Float}
use Rattle.std.specs.Prelude.{Option, None, Some}
use Rattle.market.specs.declared.fault.Fault.TheVariants.{UnknownSymbol, BadValue, BrokerFailed, WithdrawFailed}
use Rattle.market.specs.Orders.{event_of}
use Rattle.market.specs.declared.order.Order.{Order}
use Rattle.market.specs.declared.quote.Quote.{Quote}
use Rattle.orders.specs.Orders.{orders_of}
use Rattle.ledger.specs.Calls.{Call, deposit, withdraw, liquidate, send, insert, check, deposited, withdrawn, refused, event, traded}
use Rattle.ledger.specs.Ledger as Ledger
use Rattle.ledger.specs.Ledger.{Ledger, start}
use Rattle.ledger.specs.Examples.{Example, example, num, halves, quote, buy, sell}
use Rattle.cases.specs.Made.{negative, numbered}

-- after these calls: cash, Failed, what is held and pending of symbol 1, its latest quote, and the orders that wait
pub record Seen : Type 0 where
  pub cash : Float
  pub failed : Bool
  pub held : Option Float
  pub pending : Option Float
  pub latest : Option Quote
  pub waiting : List Order

abbrev after : List Quote → List Call → Ledger
after first cs = Ledger.run (start [] 1 first 8) cs

abbrev seen : Ledger → Seen
seen L =
    let m = L.money in
    record { cash = m.cash; failed = m.failed; held = m.held 1; pending = m.pending 1; latest = m.latest 1; waiting = orders_of L.orders.waiting }

-- symbol 1 at this bid and ask
abbrev at : ℕ → ℕ → List Quote
at bid ask = quote 1 (num bid) (num ask) ∷ []

-- cash 3,000, and 40 shares that a direct insertion bought at 100
abbrev exceeds_holding : List Call
exceeds_holding = deposit (num 3000) ∷ insert (buy 1 40) ∷ check [] [] ∷ check (at 99 100) [] ∷ []

-- cash 100, and 9 shares sent at 10 that traded at 20: -80 is left, and the liquidation value is 9 × 20 - 80 = 100, below 80 + 1,000
abbrev failing : List Call
failing = deposit (num 100) ∷ send (buy 1 9) ∷ check [] [] ∷ check (at 20 20) (at 20 20) ∷ []

abbrev pub checking : List Example
checking =
    -- a sent buy raises pending, and waits
    example 466
    (seen (after (at 9 10) (deposit (num 100) ∷ send (buy 1 9) ∷ [])))
    (record { cash = num 100; failed = false; held = None; pending = Some (num 9); latest = Some (quote 1 (num 9) (num 10)); waiting = buy 1 9 ∷ [] }) ∷
    -- its trade is at the tradable table's ask, 9 × 11 = 99; the latest quote is the fetched one
    example 467
    (seen (after (at 9 10) (deposit (num 100) ∷ send (buy 1 9) ∷ check [] [] ∷ check (at 10 11) (at 20 21) ∷ [])))
    (record { cash = num 1; failed = false; held = Some (num 9); pending = None; latest = Some (quote 1 (num 20) (num 21)); waiting = [] }) ∷
    -- without a fetched row the latest quote is kept
    example 468
    (seen (after (at 9 10) (deposit (num 100) ∷ send (buy 1 9) ∷ check [] [] ∷ check (at 10 11) [] ∷ [])))
    (record { cash = num 1; failed = false; held = Some (num 9); pending = None; latest = Some (quote 1 (num 9) (num 10)); waiting = [] }) ∷
    -- cash 0 is no shortfall: 9 × 10 of 90
    example 469
    (seen (after (at 9 10) (deposit (num 90) ∷ insert (buy 1 9) ∷ check [] [] ∷ check (at 9 10) [] ∷ [])))
    (record { cash = num 0; failed = false; held = Some (num 9); pending = Some (negative 9 1); latest = Some (quote 1 (num 9) (num 10)); waiting = [] }) ∷
    -- a shortfall of 4,000 - 3,000 and the 1,000: 2,000 / 100 = 20 shares are sent, at the bid 99.5 rounded up
    example 470
    (seen (after (quote 1 (halves 199) (num 101) ∷ []) exceeds_holding))
    (record { cash = negative 1000 1; failed = false; held = Some (num 40); pending = Some (negative 60 1); latest = Some (quote 1 (halves 199) (num 101)); waiting = sell 1 20 ∷ [] }) ∷
    -- a shortfall that is not covered: Failed; 1,080 exceeds cash, which is kept
    example 471
    (seen (after (at 9 10) failing))
    (record { cash = negative 80 1; failed = true; held = Some (num 9); pending = None; latest = Some (quote 1 (num 20) (num 20)); waiting = [] }) ∷
    -- a Failed broker: deposits, withdrawals and sends draw 4; a liquidation does not (the sale of 2.5 shares does, unreported), nor does an insertion, nor a
    -- check, which books it, nor the next, which trades it
    example 472
    (map numbered (Ledger.answers (after (at 9 10) failing)
    (deposit (num 10) ∷ withdraw (num 10) ∷ send (sell 1 1) ∷ liquidate (num 50) ∷ insert (sell 1 5) ∷ check [] [] ∷ check (at 30 31) [] ∷ [])))
    ((refused (Some BrokerFailed) (num 10), 4) ∷ (refused (Some BrokerFailed) (num 10), 4) ∷ (event (event_of (sell 1 1) (Some BrokerFailed)), 4) ∷
    (withdrawn (num 50), 0) ∷ (event (event_of (sell 1 5) None), 0) ∷ (traded None 0, 0) ∷ (traded None 1, 0) ∷ []) ∷
    -- after those: cash -80 + 5 × 30, 9 - 5 held, pending 0 + 5 by the trade alone; Failed for good
    example 473
    (seen (Ledger.run (after (at 9 10) failing) (deposit (num 10) ∷ send (sell 1 1) ∷ liquidate (num 50) ∷ insert (sell 1 5) ∷ check [] [] ∷ check (at 30 31) [] ∷ [])))
    (record { cash = num 70; failed = true; held = Some (num 4); pending = Some (num 5); latest = Some (quote 1 (num 20) (num 20)); waiting = [] }) ∷
    -- a Ready broker: a deposit adds, a withdrawal of all of cash takes it, one above cash draws 12, and a negative deposit is allowed
    example 474
    (map numbered (Ledger.answers (after [] []) (deposit (num 100) ∷ withdraw (halves 201) ∷ withdraw (num 100) ∷ deposit (negative 5 1) ∷ [])))
    ((deposited (num 100), 0) ∷ (refused (Some WithdrawFailed) (halves 201), 12) ∷ (withdrawn (num 100), 0) ∷ (deposited (negative 5 1), 0) ∷ []) ∷
    -- a check draws its tradable table's number, 1 for symbol 256; else that of the fetched one, 2 for a bid of 0
    example 475
    (map numbered (Ledger.answers (after [] []) (check (quote 256 (num 1) (num 1) ∷ []) (at 0 1) ∷ check (at 1 1) (at 0 1) ∷ [])))
    ((traded (Some UnknownSymbol) 0, 1) ∷ (traded (Some BadValue) 0, 2) ∷ []) ∷
    -- cash: 100 + 5 - 30, and 12 changes nothing
    example 476 (after [] (deposit (num 100) ∷ deposit (num 5) ∷ withdraw (num 30) ∷ withdraw (num 76) ∷ [])).money.cash (num 75) ∷ []
