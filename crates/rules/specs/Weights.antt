-- Weights: document 01, section 5, and document 02, request 1. Definitions only.
use Rattle.std.specs.Prelude.{ℕ, Bool, true, false, cond, List, [], ◌∷◌, ◌++◌, Float}
use Rattle.std.specs.Prelude.{Option, None, Some, is_none, option_map, unwrap_or}
use Rattle.lists.specs.Lists.{given}
use Rattle.market.specs.Faults.{Test, ◌draws◌, drawn, unless_drawn}
use Rattle.market.specs.declared.fault.Fault.{Fault}
use Rattle.market.specs.declared.fault.Fault.TheVariants.{NothingToWeigh, BeyondLot}
use Rattle.market.specs.Orders.{zero64, market_order}
use Rattle.market.specs.declared.order.OrderType.TheVariants.{MarketSell, MarketBuy}
use Rattle.market.specs.declared.order.Order.{Order}
use Rattle.market.specs.declared.quote.Quote.{Quote}
use Rattle.market.specs.declared.weight.Weight.{Weight}
use Rattle.costs.specs.declared.BrokerCost.{BrokerCost}
use Rattle.costs.specs.Costs.{trade_impact_total}
use Rattle.floats.specs.Lots.{lot_shares}
use Rattle.orders.specs.Orders.{sells_first}
use Rattle.rules.specs.Amounts.{minus, times, divided, negated, below, is_zero, size}
use Rattle.rules.specs.Money.{Money, or_zero}
use Rattle.rules.specs.Values.{value_of, liquidation_value}

-- the costs act on the difference's size: as a sale at the bid where the difference is below zero, else as a buy at the ask;
-- shares are the net budget over the net price, rounded down to a multiple of the lot, negated for a difference below zero; missing where the lot does not
-- round the quotient
abbrev pub shares_at : ℕ → List BrokerCost → Float → Float → Bool → Option Float
shares_at lot costs d price is_buy =
    let net = trade_impact_total costs (size d) price is_buy in
    lot_shares lot (divided net.budget net.price)

unfoldable pub shares_for : ℕ → List BrokerCost → Float → Quote → Option Float
shares_for lot costs d q = cond (below d zero64) (option_map negated (shares_at lot costs d q.bid false)) (shares_at lot costs d q.ask true)

-- positive is a buy, negative or NaN a sale of the size; zero shares list no order
unfoldable pub order_for : ℕ → Float → List Order
order_for s x = cond (is_zero x) [] (cond (below zero64 x) (market_order MarketBuy s x) (market_order MarketSell s (size x)) ∷ [])

-- difference = liquidation value × weight - position value (absent: 0)
abbrev pub difference : Money → Float → Weight → Float
difference m v w = minus (times v w.weight) (or_zero (value_of m w.symbol))

-- the orders of a row of weights: an unquoted symbol is passed over; missing where the shares are
abbrev pub orders_at : ℕ → List BrokerCost → ℕ → Float → Option Quote → Option (List Order)
orders_at lot costs s d q = given q (Some []) (λ x. option_map (order_for s) (shares_for lot costs d x))

abbrev pub row_orders : Money → Float → Weight → Option (List Order)
row_orders m d w = orders_at m.lot m.costs w.symbol d (m.latest w.symbol)

-- a row's orders and those of the rows behind it; missing where either is
abbrev pub then_rows : Option (List Order) → Option (List Order) → Option (List Order)
then_rows None l = None
then_rows (Some k) None = None
then_rows (Some k) (Some l) = Some (k ++ l)

-- a zero difference ends the walk
unfoldable pub wanted : Money → Float → List Weight → Option (List Order)
wanted m v [] = Some []
wanted m v (w ∷ l) =
    let d = difference m v w in
    cond (is_zero d) (Some []) (then_rows (row_orders m d w) (wanted m v l))

-- what the walk comes to: what is drawn, and the orders
pub record Plan : Type 0 where
  pub fault : Option Fault
  pub orders : List Order

-- 13 where the liquidation value is zero, 18 where the walk meets a quotient that the lot does not round
abbrev pub plan_tests : Float → Option (List Order) → List Test
plan_tests v walk = (is_zero v draws NothingToWeigh) ∷ (is_none walk draws BeyondLot) ∷ []

-- no order is listed where a number is drawn
abbrev pub plan_as : Option Fault → List Order → Plan
plan_as d l = record { fault = d; orders = unless_drawn d l [] }

-- sales listed first
unfoldable pub plan_of : Money → List Weight → Plan
plan_of m l =
    let v = liquidation_value m in
    let walk = wanted m v l in
    plan_as (drawn (plan_tests v walk)) (sells_first (unwrap_or walk []))
