-- Cases of document 01, section 3: which order trades on which quote, and at what. Definitions only.
use Rattle.std.specs.Prelude.{List, [], ◌∷◌, pos, negsuc, Float}
use Rattle.std.specs.Prelude.{Option, None, Some}
use Rattle.market.specs.Orders.{market_order, priced_order}
use Rattle.market.specs.declared.order.OrderType.{OrderType}
use Rattle.market.specs.declared.order.OrderType.TheVariants.{MarketSell, MarketBuy, LimitSell, LimitBuy, StopSell, StopBuy}
use Rattle.market.specs.declared.quote.Quote.{Quote}
use Rattle.market.specs.declared.trade.Trade.{Trade}
use Rattle.market.specs.declared.trade.TradeType.TheVariants.{Buy, Sell}
use Rattle.orders.specs.Orders.{trade_for}
use Rattle.ledger.specs.Examples.{Example, example, num, halves}
use Rattle.cases.specs.Made.{ratio, dated, trade_at}

-- symbol 1 at bid 9.5 and ask 10 on the day 7, symbol 2 on the day -5
abbrev rows : List Quote
rows = dated 1 (halves 19) (num 10) (pos 7) ∷ dated 2 (num 3) (num 4) (negsuc 4) ∷ []

-- what an order of 3 shares of symbol 1 trades, without a price and at one
abbrev bare : OrderType → Option Trade
bare k = trade_for rows (market_order k 1 (num 3))

abbrev priced : OrderType → Float → Option Trade
priced k price = trade_for rows (priced_order k 1 (num 3) price)

-- 10 × 3 = 30 at the ask, 9.5 × 3 = 28.5 at the bid, with the row's date
abbrev bought : Option Trade
bought = Some (trade_at Buy 1 (num 3) (num 30) (pos 7))

abbrev sold : Option Trade
sold = Some (trade_at Sell 1 (num 3) (halves 57) (pos 7))

abbrev pub trading : List Example
trading =
    -- market orders trade, a buy at the ask, a sell at the bid, also where they have a price
    example 301 (bare MarketBuy) bought ∷
    example 302 (bare MarketSell) sold ∷
    example 303 (priced MarketBuy (num 1) ∷ priced MarketSell (num 99) ∷ []) (bought ∷ sold ∷ []) ∷
    -- limit buy: price >= ask. 10 is the ask; 9.75 lies between bid and ask
    example 304 (priced LimitBuy (num 10)) bought ∷
    example 305 (priced LimitBuy (ratio 39 4)) None ∷
    -- limit sell: price <= bid. 9.5 is the bid
    example 306 (priced LimitSell (halves 19)) sold ∷
    example 307 (priced LimitSell (ratio 39 4)) None ∷
    -- stop buy: price <= ask; 10.25 is above
    example 308 (priced StopBuy (num 10)) bought ∷
    example 309 (priced StopBuy (ratio 39 4)) bought ∷
    example 310 (priced StopBuy (ratio 41 4)) None ∷
    -- stop sell: price >= bid; 9.25 is below
    example 311 (priced StopSell (halves 19)) sold ∷
    example 312 (priced StopSell (ratio 39 4)) sold ∷
    example 313 (priced StopSell (ratio 37 4)) None ∷
    -- without a price, limit sell and stop buy trade, the other two never
    example 314 (bare LimitSell ∷ bare StopBuy ∷ bare LimitBuy ∷ bare StopSell ∷ []) (sold ∷ bought ∷ None ∷ None ∷ []) ∷
    -- a booked order needs a row for its symbol: 2 has one, 4 × 3 = 12; 3 has none
    example 315
    (trade_for rows (market_order MarketBuy 2 (num 3)) ∷ trade_for rows (market_order MarketBuy 3 (num 3)) ∷ [])
    (Some (trade_at Buy 2 (num 3) (num 12) (negsuc 4)) ∷ None ∷ []) ∷ []
