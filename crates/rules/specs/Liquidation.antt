-- Liquidation of an amount: document 01, section 4. Definitions only.
use Rattle.std.specs.Prelude.{ℕ, cond, List, [], ◌∷◌, Float}
use Rattle.std.specs.Prelude.{Option, None, Some}
use Rattle.std.specs.Float.{binary64}
use Rattle.std.specs.Float.Ieee.{of_bits}
use Rattle.lists.specs.Lists.{given}
use Rattle.market.specs.Orders.{zero64, market_order}
use Rattle.market.specs.declared.order.OrderType.TheVariants.{MarketSell}
use Rattle.market.specs.declared.order.Order.{Order}
use Rattle.market.specs.declared.quote.Quote.{Quote}
use Rattle.floats.specs.Whole.{ceil_of}
use Rattle.rules.specs.Amounts.{minus, divided, below, at_most, is_zero}
use Rattle.rules.specs.Money.{Money, with_cash, or_zero}
use Rattle.rules.specs.Values.{symbols, value_of, liquidation_value}

-- the sales of a walk over positions, and the rest
pub record Sales : Type 0 where
  pub orders : List Order
  pub rest : Float

abbrev pub selling : ℕ → Float → Sales → Sales
selling s shares w = record { orders = market_order MarketSell s shares ∷ w.orders; rest = w.rest }

-- the walk stops at the first position whose value is not at or below the rest, selling rest / (bid rounded up), and the rest is 0;
-- where that position has no latest quote, the rest stays as it is, and is not zero
abbrev pub last_sale : Option Quote → ℕ → Float → Sales
last_sale None s rest = record { orders = []; rest = rest }
last_sale (Some q) s rest = record { orders = market_order MarketSell s (divided rest (ceil_of q.bid)) ∷ []; rest = zero64 }

-- positions are walked by symbol; a value (absent: 0) at or below the rest is sold whole and subtracted
unfoldable pub sales_from : Money → List ℕ → Float → Sales
sales_from m [] rest = record { orders = []; rest = rest }
sales_from m (s ∷ l) rest =
    let v = or_zero (value_of m s) in
    given (m.held s)
    (sales_from m l rest)
    (λ h. cond (at_most v rest) (selling s h (sales_from m l (minus rest v))) (last_sale (m.latest s) s rest))

-- with rest 0 the orders are sent; otherwise fail
abbrev pub if_spent : Sales → Option (List Order)
if_spent w = cond (is_zero w.rest) (Some w.orders) None

-- the orders of a liquidation: none where the amount exceeds `get_liquidation_value`, or where the walk leaves a rest
unfoldable pub sales_for : Money → Float → Option (List Order)
sales_for m amount = cond (below (liquidation_value m) amount) None (if_spent (sales_from m symbols amount))

-- failing debits the amount from cash unless the amount exceeds cash
unfoldable pub debited_by : Float → Money → Money
debited_by amount m = cond (below m.cash amount) m (with_cash m (minus m.cash amount))

-- the 1,000.0 added to a shortfall, by its bits (`buffer-is` in proofs/Literals.antt: it is the whole number 1,000)
abbrev pub buffer : Float
buffer = of_bits binary64 4652007308841189376
