-- The table of proved examples of document 01, on the definitions that the program's contracts cite. Definitions only.
use Rattle.std.specs.Prelude.{ℕ, false, ◌≡◌, pos, Float, set, take}
use mathlib.Core.List.{List, [], ◌∷◌, foldl}
use Rattle.std.specs.Prelude.{Option, None, Some}
use Rattle.std.specs.Float.Ieee as Ieee
use Rattle.std.specs.Float.{binary64}
use Rattle.market.specs.declared.fault.Fault.{Fault}
use Rattle.market.specs.declared.fault.Fault.TheVariants.{ExceedsCash, WithdrawFailed}
use Rattle.market.specs.Orders.{market_order, priced_order}
use Rattle.market.specs.Quotes.{empty_table, put_row}
use Rattle.market.specs.declared.order.OrderType.TheVariants.{MarketSell, MarketBuy, LimitSell, StopBuy}
use Rattle.market.specs.declared.order.Order.{Order}
use Rattle.market.specs.declared.quote.Quote.{Quote}
use Rattle.market.specs.declared.table.Table.{Table}
use Rattle.market.specs.declared.trade.Trade.{Trade}
use Rattle.market.specs.declared.trade.TradeType.{TradeType}
use Rattle.market.specs.declared.trade.TradeType.TheVariants.{Buy, Sell}
use Rattle.market.specs.declared.weight.Weight.{Weight}
use Rattle.costs.specs.declared.BrokerCost.TheVariants.{Flat}
use Rattle.costs.specs.declared.TradeCosts.{TradeCosts}
use Rattle.costs.specs.Kept.{no_costs, with_cost}
use Rattle.account.specs.Account.{cash_fault}
use Rattle.exchange.specs.State.{booked_as, fresh, resting_of, waiting_of}
use Rattle.exchange.specs.Insert.{insert_of}
use Rattle.exchange.specs.Tick.{tick_of}
use Rattle.exchange.specs.declared.state.Booked.{Booked}
use Rattle.exchange.specs.declared.state.UistV1.{UistV1}
use Rattle.rules.specs.Basis.{cost_basis}
use Rattle.rules.specs.Weights.{plan_of, Plan, plan_as}
use Rattle.portfolio.specs.State.{money_of}
use Rattle.broker.specs.Build.{fresh_broker}
use Rattle.broker.specs.Send.{send_of, with_funds}
use Rattle.broker.specs.Cash.{with_cash, cash_of, withdraw_of}
use Rattle.broker.specs.Liquidate.{liquidate_of}
use Rattle.broker.specs.declared.state.Told.{Told}
use Rattle.account.specs.declared.BrokerCashEvent.{BrokerCashEvent}
use Rattle.broker.specs.declared.state.UistBroker.{UistBroker}

-- a row of the table: the example's number in 01, what is computed, and what it is
pub record Example : Type 1 where
  pub number : ℕ
  pub Value : Type 0
  pub computed : Value
  pub is : Value

abbrev pub example : {A : Type 0} → ℕ → A → A → Example
example {A} n x y = record { number = n; Value = A; computed = x; is = y }

-- every row is what it is said to be
abbrev pub AllHold : List Example → Type 0
AllHold [] = Unit {0}
AllHold (e ∷ l) = (e.computed ≡ e.is) × AllHold l

-- ---- floats: n, and n halves

abbrev pub num : ℕ → Float
num n = Ieee.of_int binary64 (pos n)

abbrev pub halves : ℕ → Float
halves n = Ieee.round binary64 false n 2

-- ---- what the examples start from: a fresh broker or exchange for a log of 8 rows, lot 1 unless named. Symbols are 1, 2, 3, and an order whose shares 01 does not name has 1 share

abbrev pub quote : ℕ → Float → Float → Quote
quote s bid ask = record { symbol = s; bid = bid; ask = ask; date = pos 0 }

abbrev pub quoted : List Quote → Table
quoted l = foldl put_row empty_table l

abbrev pub in_lots : ℕ → TradeCosts → List Quote → ℕ → UistBroker
in_lots lot costs l cash = with_cash (fresh_broker costs lot (quoted l) 8) (num cash)

abbrev pub broker : TradeCosts → List Quote → ℕ → UistBroker
broker = in_lots 1

abbrev pub holding : ℕ → ℕ → UistBroker → UistBroker
holding s n b =
    let f = b.portfolio.funds in
    with_funds b (record { holding = set f.holding s (num n); pending = f.pending; cash = f.cash; failed = f.failed })

-- an exchange on which these orders wait
abbrev pub waiting : List Order → UistV1
waiting l = foldl (λ e o. (insert_of e o).state) (fresh 8) l

abbrev pub buy : ℕ → ℕ → Order
buy s n = market_order MarketBuy s (num n)

abbrev pub sell : ℕ → ℕ → Order
sell s n = market_order MarketSell s (num n)

-- without a price
abbrev pub limit_sell : ℕ → ℕ → Order
limit_sell s n = market_order LimitSell s (num n)

abbrev pub stop_buy : ℕ → ℕ → ℕ → Order
stop_buy s n price = priced_order StopBuy s (num n) (num price)

abbrev pub weight : ℕ → Float → Weight
weight s w = record { symbol = s; weight = w }

abbrev pub trade : TradeType → ℕ → ℕ → Trade
trade k shares value = record { symbol = 1; typ = k; value = num value; quantity = num shares; date = pos 0 }

abbrev pub trades : List Trade
trades = trade Buy 10 100 ∷ trade Sell 10 120 ∷ trade Buy 5 60 ∷ []

-- ---- what is computed

-- what a sent order draws: None where it is taken
abbrev pub sent : UistBroker → Order → Option Fault
sent b o = (send_of b o).event.fault

-- what a cash mover draws, and cash afterwards
abbrev pub moved : Told BrokerCashEvent → Option Fault × Float
moved x = (cash_fault x.event, cash_of x.broker)

-- what is drawn, and the orders that wait afterwards
abbrev pub sold : Told BrokerCashEvent → Option Fault × List Order
sold x = (cash_fault x.event, waiting_of x.broker.exchange)

-- the tick after the one that books the waiting orders: how many traded, and the book
abbrev pub second_tick : UistV1 → Table → ℕ × List Booked
second_tick e t =
    let x = tick_of (tick_of e t).exchange t in
    (x.count, resting_of x.exchange)

abbrev pub booked : ℕ → Order → Booked
booked n o = booked_as n o

-- the orders of the walk over weights
abbrev pub planned : UistBroker → List Weight → Plan
planned b w = plan_of (money_of b.portfolio) w

-- ---- the table: no costs, cash 0, nothing held and market orders unless named; `other` stands for every price that 01 does not name

abbrev pub table : Float → List Example
table other =
    -- cash 100, buy 1, ask 100: 7
    example 1 (sent (broker no_costs (quote 1 other (num 100) ∷ []) 100) (buy 1 1)) (Some ExceedsCash) ∷
    -- ask 99: taken
    example 2 (sent (broker no_costs (quote 1 other (num 99) ∷ []) 100) (buy 1 1)) None ∷
    -- withdraw 100 of 100: cash 0
    example 3 (moved (withdraw_of (broker no_costs [] 100) (num 100))) (None, num 0) ∷
    -- withdraw 101: 12
    example 4 (moved (withdraw_of (broker no_costs [] 100) (num 101))) (Some WithdrawFailed, num 100) ∷
    -- cash 100, nothing held, liquidate 50: 12, cash 50
    example 5 (moved (liquidate_of (broker no_costs [] 100) (num 50))) (Some WithdrawFailed, num 50) ∷
    -- liquidate 101: 12, cash 100
    example 6 (moved (liquidate_of (broker no_costs [] 100) (num 101))) (Some WithdrawFailed, num 100) ∷
    -- limit sell without price, quoted: trades
    example 7 (second_tick (waiting (limit_sell 1 1 ∷ [])) (quoted (quote 1 other other ∷ []))) (1, []) ∷
    -- stop buy at 100, ask 99: rests
    example 8 (second_tick (waiting (stop_buy 1 1 100 ∷ [])) (quoted (quote 1 other (num 99) ∷ []))) (0, booked 0 (stop_buy 1 1 100) ∷ []) ∷
    -- waiting buy A, sells B, C: numbers B 0, C 1, A 2
    example 9
    (resting_of (tick_of (waiting (buy 1 1 ∷ sell 2 1 ∷ sell 3 1 ∷ [])) (quoted [])).exchange)
    (booked 0 (sell 2 1) ∷ booked 1 (sell 3 1) ∷ booked 2 (buy 1 1) ∷ []) ∷
    -- cash 1,000, weight 0.5, ask 30: buy 16
    example 10 (planned (broker no_costs (quote 1 other (num 30) ∷ []) 1000) (weight 1 (halves 1) ∷ [])) (plan_as None (buy 1 16 ∷ [])) ∷
    -- cash 10, weight 0.5, ask 100, flat 10: sale of 1
    example 11 (planned (broker (with_cost no_costs (Flat (num 10))) (quote 1 other (num 100) ∷ []) 10) (weight 1 (halves 1) ∷ [])) (plan_as None (sell 1 1 ∷ [])) ∷
    -- cash 1,000, weight 0 of an unheld symbol first: no order for later symbols
    example 12
    (planned (broker no_costs (quote 1 other other ∷ quote 2 other (num 30) ∷ []) 1000) (weight 1 (num 0) ∷ weight 2 (halves 1) ∷ []))
    (plan_as None []) ∷
    -- buy 10 for 100, sell 10 for 120: no basis; buy 5 for 60: 12
    example 13 (cost_basis (take 2 trades) 1 ∷ cost_basis trades 1 ∷ []) (None ∷ Some (num 12) ∷ []) ∷
    -- hold 10 at bid 12.5, liquidate 26: sell 2
    example 14 (sold (liquidate_of (holding 1 10 (broker no_costs (quote 1 (halves 25) other ∷ []) 0)) (num 26))) (None, sell 1 2 ∷ []) ∷ []

-- the fourteen examples hold, whatever the other price
abbrev pub Examples : Type 0
Examples = (other : Float) → AllHold (table other)

-- ---- document 02, request 1: examples 10 and 11 with lot 5

abbrev pub lot_table : Float → List Example
lot_table other =
    -- 500 / 30 is 16.7, down to 15
    example 10 (planned (in_lots 5 no_costs (quote 1 other (num 30) ∷ []) 1000) (weight 1 (halves 1) ∷ [])) (plan_as None (buy 1 15 ∷ [])) ∷
    -- (5 - 10) / 100 is -0.05, down to -5: a sale of 5
    example 11 (planned (in_lots 5 (with_cost no_costs (Flat (num 10))) (quote 1 other (num 100) ∷ []) 10) (weight 1 (halves 1) ∷ [])) (plan_as None (sell 1 5 ∷ [])) ∷ []

abbrev pub LotExample : Type 0
LotExample = (other : Float) → AllHold (lot_table other)
