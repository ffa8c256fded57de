-- Cases of document 01, section 4: liquidation of an amount, by the rule and by the plain ledger's call. Definitions only.
use Rattle.std.specs.Prelude.{ℕ, List, [], ◌∷◌, map, Float}
use Rattle.std.specs.Prelude.{None, Some}
use Rattle.market.specs.declared.fault.Fault.TheVariants.{WithdrawFailed}
use Rattle.market.specs.Orders.{market_order}
use Rattle.market.specs.declared.order.Order.{Order}
use Rattle.market.specs.declared.order.OrderType.TheVariants.{MarketSell}
use Rattle.costs.specs.declared.BrokerCost.TheVariants.{PctOfValue}
use Rattle.orders.specs.Orders.{orders_of}
use Rattle.rules.specs.Money.{Money}
use Rattle.rules.specs.Liquidation.{sales_for, debited_by}
use Rattle.ledger.specs.Calls.{Answer, withdrawn, refused, liquidate}
use Rattle.ledger.specs.Ledger as Ledger
use Rattle.ledger.specs.Examples.{Example, example, num, halves, quote, sell}
use Rattle.cases.specs.Made.{ratio, negative, having, holding, numbered}

-- symbol 1 at bid 10, symbol 2 at bid 25.5, asks above them; 4 and 2 are held, worth 40 and 51; this cash
abbrev two : Float → Money
two cash = having [] (quote 1 (num 10) (num 11) ∷ quote 2 (halves 51) (num 27) ∷ []) cash ((1, num 4) ∷ (2, num 2) ∷ []) []

-- 3 of symbol 1, which has no latest quote, and 2 of symbol 2 at bid 25.5
abbrev unquoted : Float → Money
unquoted cash = having [] (quote 2 (halves 51) (num 27) ∷ []) cash ((1, num 3) ∷ (2, num 2) ∷ []) []

-- a part 0.5; 10 of symbol 1 at bid 10, worth 100; cash 7: the liquidation value is 7 + 50
abbrev parted : Money
parted = having (PctOfValue (halves 1) ∷ []) (quote 1 (num 10) (num 11) ∷ []) (num 7) ((1, num 10) ∷ []) []

-- the call: what it answers, with its number, cash afterwards, and the orders that wait
abbrev called : Money → Float → (Answer × ℕ) × (Float × List Order)
called m a =
    let L = Ledger.step (holding m) (liquidate a) in
    (numbered (Ledger.answer (holding m) (liquidate a)), (L.money.cash, orders_of L.orders.waiting))

abbrev pub liquidating : List Example
liquidating =
    -- the symbols 0 and 255, worth 6 and 38: 44 sells both whole
    example 450
    (sales_for (having [] (quote 0 (num 3) (num 4) ∷ quote 255 (halves 19) (num 10) ∷ []) (num 0) ((0, num 2) ∷ (255, num 4) ∷ []) []) (num 44))
    (Some (sell 0 2 ∷ sell 255 4 ∷ [])) ∷
    -- exactly the liquidation value, 40 + 51 = 91: both are sold whole, and the rest is 0
    example 451 (sales_for (two (num 0)) (num 91)) (Some (sell 1 4 ∷ sell 2 2 ∷ [])) ∷
    -- more: fail
    example 452 (sales_for (two (num 0)) (halves 183)) None ∷
    -- 65: symbol 1 is sold whole, then rest / (bid rounded up) = 25 / 26 of symbol 2
    example 453 (sales_for (two (num 0)) (num 65)) (Some (sell 1 4 ∷ market_order MarketSell 2 (ratio 25 26) ∷ [])) ∷
    -- a value at the rest is sold whole: 40. The walk goes on to the first position whose value is above the rest 0, and sells 0 / 26 of it
    example 454 (sales_for (two (num 0)) (num 40)) (Some (sell 1 4 ∷ sell 2 0 ∷ [])) ∷
    -- 39: 40 is above it, so 39 / 10 shares, and the walk stops
    example 455 (sales_for (two (num 0)) (num 39)) (Some (market_order MarketSell 1 (ratio 39 10) ∷ [])) ∷
    -- with cash 100 the liquidation value is 191. 95: a rest of 95 - 40 - 51 = 4 is left: fail; held cash is not taken off the amount first
    example 456 (sales_for (two (num 100)) (num 95)) None ∷
    -- below zero: 40 is above -5, so -5 / 10 shares
    example 457 (sales_for (two (num 0)) (negative 5 1)) (Some (market_order MarketSell 1 (negative 1 2) ∷ [])) ∷
    -- a value that is absent counts as 0: at 51 it is sold whole, then the 51 of symbol 2
    example 458 (sales_for (unquoted (num 0)) (num 51)) (Some (sell 1 3 ∷ sell 2 2 ∷ [])) ∷
    -- where the walk stops at a position without a latest quote, a rest below zero, fail
    example 459 (sales_for (unquoted (num 0)) (negative 1 1)) None ∷
    -- costs: 57.5 is above the liquidation value 57, though not above the total 107. 57 is not: 57 / 10 shares at the whole bid
    example 460 (map (sales_for parted) (halves 115 ∷ num 57 ∷ [])) (None ∷ Some (market_order MarketSell 1 (ratio 57 10) ∷ []) ∷ []) ∷
    -- failing debits the amount from cash unless it exceeds cash: 100 - 95, 100 - 100; 100.5 is above 100; 100 - (-1)
    example 461
    (map (λ a. (debited_by a (two (num 100))).cash) (num 95 ∷ num 100 ∷ halves 201 ∷ negative 1 1 ∷ []))
    (num 5 ∷ num 0 ∷ num 100 ∷ num 101 ∷ []) ∷
    -- the call: success answered, cash untouched, the orders wait; the sale of no shares is refused, unreported
    example 462 (called (two (num 7)) (num 40)) ((withdrawn (num 40), 0), (num 7, sell 1 4 ∷ [])) ∷
    -- 12 with a debit, and 12 without
    example 463 (called (two (num 100)) (num 95)) ((refused (Some WithdrawFailed) (num 95), 12), (num 5, [])) ∷
    example 464 (called (two (num 100)) (num 192)) ((refused (Some WithdrawFailed) (num 192), 12), (num 100, [])) ∷
    -- the sale of the unquoted symbol is refused, unreported
    example 465 (called (unquoted (num 0)) (num 51)) ((withdrawn (num 51), 0), (num 0, sell 2 2 ∷ [])) ∷ []
