-- Trades: document 01, section 3, for one order and the row for its symbol. Definitions only.
use Rattle.std.specs.Prelude.{Bool, true, false, cond, pos, Float}
use Rattle.std.specs.Prelude.{Option, None, Some}
use Rattle.std.specs.Float.{binary64}
use Rattle.std.specs.Float.Ieee.{le, mul}
use Rattle.lists.specs.Lists.{given}
use Rattle.market.specs.Orders.{zero64, is_sell}
use Rattle.market.specs.declared.order.OrderType.{OrderType}
use Rattle.market.specs.declared.order.OrderType.TheVariants.{MarketSell, MarketBuy, LimitSell, LimitBuy, StopSell, StopBuy}
use Rattle.market.specs.declared.order.Order.{Order}
use Rattle.market.specs.declared.quote.Quote.{Quote}
use Rattle.market.specs.declared.trade.Trade.{Trade}
use Rattle.market.specs.declared.trade.TradeType.TheVariants.{Buy, Sell}

abbrev pub blank_trade : Trade
blank_trade = record { symbol = 0; typ = Buy; value = zero64; quantity = zero64; date = pos 0 }

-- the kinds that wait for a rise of the quote to their price
abbrev pub rises : OrderType → Bool
rises MarketSell = false
rises MarketBuy = false
rises LimitSell = true
rises LimitBuy = false
rises StopSell = false
rises StopBuy = true

-- market orders trade; limit buy if price >= ask, limit sell if price <= bid, stop buy if price <= ask, stop sell if price >= bid;
-- without a price, limit sell and stop buy trade, the other two never
abbrev pub meets_kind : OrderType → Option Float → Float → Float → Bool
meets_kind MarketSell price bid ask = true
meets_kind MarketBuy price bid ask = true
meets_kind LimitSell price bid ask = given price true (λ p. le p bid)
meets_kind LimitBuy price bid ask = given price false (λ p. le ask p)
meets_kind StopSell price bid ask = given price false (λ p. le bid p)
meets_kind StopBuy price bid ask = given price true (λ p. le p ask)

abbrev pub meets_rule : Order → Quote → Bool
meets_rule o q = meets_kind o.kind o.price q.bid q.ask

-- buys trade at ask, sells at bid; value is price × shares
abbrev pub trade_of : Order → Quote → Trade
trade_of o q =
    cond (is_sell o.kind)
    (record { symbol = o.symbol; typ = Sell; value = mul binary64 q.bid o.shares; quantity = o.shares; date = q.date })
    (record { symbol = o.symbol; typ = Buy; value = mul binary64 q.ask o.shares; quantity = o.shares; date = q.date })

-- a booked order needs a row for its symbol, and trades on it where that meets its rule
unfoldable pub trade_on : Option Quote → Order → Option Trade
trade_on None o = None
trade_on (Some q) o = cond (meets_rule o q) (Some (trade_of o q)) None
