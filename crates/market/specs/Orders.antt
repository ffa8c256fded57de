-- Orders: document 01, section 2, and the sender's 1 and 2. Definitions only.
use Rattle.std.specs.Prelude.{ℕ, Bool, true, false, not, ◌||◌, List, [], ◌∷◌, ltb, Float, Option, None, Some}
use Rattle.std.specs.Float.{binary64}
use Rattle.std.specs.Float.Ieee.{of_bits}
use Rattle.std.specs.Float.Ieee.Scale.{finite}
use Rattle.lists.specs.Lists.{given}
use Rattle.market.specs.Faults.{Test, ◌draws◌}
use Rattle.market.specs.declared.fault.Fault.{Fault}
use Rattle.market.specs.declared.fault.Fault.TheVariants.{UnknownSymbol, BadValue}
use Rattle.market.specs.declared.order.OrderType.{OrderType}
use Rattle.market.specs.declared.order.OrderType.TheVariants.{MarketSell, MarketBuy, LimitSell, LimitBuy, StopSell, StopBuy}
use Rattle.market.specs.declared.order.Order.{Order}
use Rattle.market.specs.declared.order.OrderEvent.{OrderEvent}

-- the float 0.0, by its bits
abbrev pub zero64 : Float
zero64 = of_bits binary64 0

-- an order without a price
abbrev pub market_order : OrderType → ℕ → Float → Order
market_order k symbol shares = record { kind = k; symbol = symbol; shares = shares; price = None }

-- a row of a list that holds no order
abbrev pub blank_order : Order
blank_order = market_order MarketSell 0 zero64

-- an order with a price
abbrev pub priced_order : OrderType → ℕ → Float → Float → Order
priced_order k symbol shares price = record { kind = k; symbol = symbol; shares = shares; price = Some price }

-- an order's event: the order with taken (None) or its number
abbrev pub event_of : Order → Option Fault → OrderEvent
event_of o f = record { order = o; fault = f }

-- the kinds that sell
abbrev pub is_sell : OrderType → Bool
is_sell MarketSell = true
is_sell MarketBuy = false
is_sell LimitSell = true
is_sell LimitBuy = false
is_sell StopSell = true
is_sell StopBuy = false

-- the kinds that trade on any quote
abbrev pub is_market : OrderType → Bool
is_market MarketSell = true
is_market MarketBuy = true
is_market LimitSell = false
is_market LimitBuy = false
is_market StopSell = false
is_market StopBuy = false

-- sender: 1 symbol above 255; 2 shares, or the price where it has one, not finite
abbrev pub order_tests : Order → List Test
order_tests o =
    (ltb 255 o.symbol draws UnknownSymbol) ∷
    ((not (finite o.shares) || given o.price false (λ price. not (finite price))) draws BadValue) ∷ []
