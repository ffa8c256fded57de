-- Demand 3: one statement about every list of calls from the builder's result. Definitions only.
use Rattle.std.specs.Prelude.{ℕ, ◌≤◌, Bool, true, false, cond, ◌≡◌, List, [], ◌∷◌, ◌++◌, eqb, Float, length, take}
use Rattle.std.specs.Prelude.{Option, None, Some, Ok}
use Rattle.lists.specs.Lists.{over, gather, given, All}
use Rattle.market.specs.Faults.{drawn, unless_drawn}
use Rattle.market.specs.Orders.{zero64}
use Rattle.market.specs.Quotes.{table_tests}
use Rattle.market.specs.declared.order.Order.{Order}
use Rattle.market.specs.declared.quote.Quote.{Quote}
use Rattle.market.specs.declared.trade.Trade.{Trade}
use Rattle.costs.specs.declared.TradeCosts.{TradeCosts}
use Rattle.costs.specs.Costs.{is_finite}
use Rattle.costs.specs.Kept.{costs_of}
use Rattle.orders.specs.Orders.{Taken, plain, orders_of, Orders}
use Rattle.orders.specs.Claim.{Calls, Lived}
use Rattle.exchange.specs.State.{resting_of, waiting_of}
use Rattle.exchange.specs.Runs.{resting_from}
use Rattle.rules.specs.Amounts.{below}
use Rattle.rules.specs.Basis.{cost_basis}
use Rattle.rules.specs.Liquidation.{sales_for}
use Rattle.rules.specs.Weights.{plan_of}
use Rattle.portfolio.specs.State.{money_of}
use Rattle.broker.specs.Lender.{log_test, broker_fault}
use Rattle.broker.specs.Lent.{build_for}
use Rattle.market.specs.declared.order.OrderEvent.{OrderEvent}
use Rattle.ledger.specs.Calls.{Call, deposit, withdraw, liquidate, send, send_list, insert, delete, check, update}
use Rattle.ledger.specs.Ledger as Ledger
use Rattle.ledger.specs.Ledger.{Ledger, send_event, send_events, insert_event, shortfall, booking, checking, check_tests, update_tests, call_tests, start}
use Rattle.ledger.specs.Program as Program
use Rattle.ledger.specs.Program.{Held, built}

-- the tradable table of an unrefused check, alone or in an update: nothing is drawn before it acts
abbrev pub tradable : Call → Option (List Quote)
tradable (deposit a) = None
tradable (withdraw a) = None
tradable (liquidate a) = None
tradable (send o) = None
tradable (send_list l e) = None
tradable (insert o) = None
tradable (delete n) = None
tradable (check t f) = unless_drawn (drawn (check_tests t f)) (Some t) None
tradable (update t f w e) = unless_drawn (drawn (update_tests t f w (length e))) (Some t) None

abbrev pub deletes : ℕ → Call → Bool
deletes n (deposit a) = false
deletes n (withdraw a) = false
deletes n (liquidate a) = false
deletes n (send o) = false
deletes n (send_list l e) = false
deletes n (insert o) = false
deletes n (delete m) = eqb n m
deletes n (check t f) = false
deletes n (update t f w e) = false

-- ---- the orders that a call takes, in order of taking

-- of orders that are sent or inserted, those whose event has no refusal
abbrev pub taken_by : List OrderEvent → List Taken
taken_by l = gather (λ e. unless_drawn e.fault (plain e.order ∷ []) []) l

-- of orders sent one after the other
abbrev pub sent_by : Ledger → List Order → List Taken
sent_by L l = taken_by (send_events L l)

-- of a liquidation's orders
abbrev pub takes_selling : Ledger → Float → List Taken
takes_selling L a = given (sales_for L.money a) [] (sent_by L)

-- of a shortfall's, L being the ledger once the trades are booked
abbrev pub takes_short : Ledger → List Taken
takes_short L = cond (below L.money.cash zero64) (takes_selling L (shortfall L)) []

-- where nothing is drawn before the call acts; a check takes its shortfall's orders, an update then those of the walk too
abbrev pub takes_acting : Ledger → Call → List Taken
takes_acting L (deposit a) = []
takes_acting L (withdraw a) = []
takes_acting L (liquidate a) = takes_selling L a
takes_acting L (send o) = taken_by (send_event L o ∷ [])
takes_acting L (send_list l e) = sent_by L l
takes_acting L (insert o) = taken_by (insert_event L o ∷ [])
takes_acting L (delete n) = []
takes_acting L (check t f) = takes_short (booking L t f)
takes_acting L (update t f w e) = takes_short (booking L t f) ++ sent_by (checking L t f) (plan_of (checking L t f).money w).orders

-- a call that draws something before it acts takes none
abbrev pub takes : Ledger → Call → List Taken
takes L c = unless_drawn (drawn (call_tests L c)) (takes_acting L c) []

abbrev pub broker_calls : Calls
broker_calls = record { Call = Call; tradable = tradable; deletes = deletes }

-- the builder draws nothing: at most 16 costs, each finite, a lot of 1 to 1,000,000, and a first table that draws nothing
pub record Buildable (costs : TradeCosts) (lot : ℕ) (first : List Quote) : Type 0 where
  pub few : costs.count ≤ 16
  pub lot-size : (1 ≤ lot) × (lot ≤ 1000000)
  pub each-finite : All (λ c. is_finite c ≡ true) (costs_of costs)
  pub table : drawn (table_tests 0 first) ≡ None

-- what is compared after a list of calls; l₀ is the log as it was lent at the start
pub record Compared (l₀ : List Trade) (s : Held) (L : Ledger) : Type 0 where
  -- the log: the ledger's trades in order, then the old rows
  pub log : s.log ≡ over L.orders.trades l₀
  -- the logged rows, from the first to the newest, are the trades and no others
  pub logged : take s.broker.exchange.counts.logged s.log ≡ L.orders.trades
  -- no read draws Unsound, with the log lent or without
  pub sound : drawn (log_test s.broker s.log ∷ []) ≡ None
  pub sound-alone : broker_fault s.broker ≡ None
  -- resting orders with their numbers, and waiting ones
  pub resting : resting_of s.broker.exchange ≡ resting_from 0 L.orders.booked
  pub waiting : waiting_of s.broker.exchange ≡ orders_of L.orders.waiting
  -- costs, the lot, latest quotes, Failed, cash, holdings and pending quantities
  pub money : money_of s.broker.portfolio ≡ L.money
  -- cost basis, from the log's first row to its newest
  pub basis : (n : ℕ) → cost_basis (take s.broker.exchange.counts.logged s.log) n ≡ cost_basis L.orders.trades n

abbrev pub ledger_after : TradeCosts → ℕ → List Quote → ℕ → List Call → Ledger
ledger_after costs lot first room cs = Ledger.run (start (costs_of costs) lot first room) cs

abbrev pub orders_after : TradeCosts → ℕ → List Quote → ℕ → List Call → Orders
orders_after costs lot first room cs = (ledger_after costs lot first room cs).orders

-- the orders that a call takes after the calls before it
abbrev pub takes_after : TradeCosts → ℕ → List Quote → ℕ → List Call → Call → List Taken
takes_after costs lot first room past c = takes (ledger_after costs lot first room past) c

pub record Demand3 (costs : TradeCosts) (lot : ℕ) (first : List Quote) (l₀ : List Trade) (cs : List Call) : Type 0 where
  -- the builder draws nothing: it answers the broker from which the calls start
  pub begun : build_for costs lot first l₀ ≡ Ok (built costs lot first l₀).broker
  -- an order taken waits until the next unrefused check, which books it; it has traded exactly when some unrefused check, later than the one that booked it,
  -- had a tradable row for its symbol that met its rule, the order not having been deleted before; once, in the first such check, at that row;
  -- the logged rows are these trades, check by check, in book order
  pub lived : Lived broker_calls (takes_after costs lot first (length l₀)) (orders_after costs lot first (length l₀)) cs
  -- every answer and event but the free count
  pub answered : Program.answers (built costs lot first l₀) cs ≡ Ledger.answers (start (costs_of costs) lot first (length l₀)) cs
  -- the state
  pub compared : Compared l₀ (Program.run (built costs lot first l₀) cs) (ledger_after costs lot first (length l₀) cs)
