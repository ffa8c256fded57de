-- Cases of document 01, section 5: the walk over weights, and an update by the plain ledger's call. Definitions only.
use Rattle.std.specs.Prelude.{List, [], ◌∷◌, map, None}
use Rattle.std.specs.Float.{nan}
use Rattle.market.specs.Orders.{market_order, event_of}
use Rattle.market.specs.declared.order.OrderEvent.{OrderEvent}
use Rattle.market.specs.declared.order.OrderType.TheVariants.{MarketSell}
use Rattle.costs.specs.declared.BrokerCost.{BrokerCost}
use Rattle.costs.specs.declared.BrokerCost.TheVariants.{PerShare, PctOfValue, Flat}
use Rattle.rules.specs.Money.{Money}
use Rattle.rules.specs.Weights.{plan_of, plan_as}
use Rattle.ledger.specs.Calls.{updated, update}
use Rattle.ledger.specs.Ledger as Ledger
use Rattle.ledger.specs.Examples.{Example, example, num, halves, quote, weight, buy, sell}
use Rattle.cases.specs.Made.{ratio, negative, having, holding, plan_told}

-- symbol 1 at bid 10 and ask 12, of which 10 are held, worth 100; symbol 2 at bid 9 and ask 10; symbol 3 at 5; cash 100
abbrev money : List BrokerCost → Money
money costs = having costs (quote 1 (num 10) (num 12) ∷ quote 2 (num 9) (num 10) ∷ quote 3 (num 5) (num 5) ∷ []) (num 100) ((1, num 10) ∷ []) []

-- half of the value is a cost
abbrev part : List BrokerCost
part = PctOfValue (halves 1) ∷ []

-- what stands in a lent list of events before the call
abbrev blank : OrderEvent
blank = event_of (sell 0 0) None

abbrev pub weighing : List Example
weighing =
    -- a part 0.5: liquidation value 100 + 50 = 150, × 0.5 = 75 for the unheld symbol 2, 37.5 after the cost; at the ask 10: 3
    -- (by the total value 200 it would be 5, without the cost 7, at the bid 4)
    example 501 (plan_of (money part) (weight 2 (halves 1) ∷ [])) (plan_as None (buy 2 3 ∷ [])) ∷
    -- 75 - 100 = -25 for symbol 1, 12.5 after the cost; at the bid 10: 1.25 down to 1, negated
    -- (by the total value it would be 0, which ends the walk; without the cost 2)
    example 502 (plan_of (money part) (weight 1 (halves 1) ∷ [])) (plan_as None (sell 1 1 ∷ [])) ∷
    -- per share 2: liquidation value 200, × 0.5 = 100; at the ask 10 + 2: 8
    example 503 (plan_of (money (PerShare (num 2) ∷ [])) (weight 2 (halves 1) ∷ [])) (plan_as None (buy 2 8 ∷ [])) ∷
    -- 200 × 0.25 - 100 = -50; at the bid 10 - 2: 6.25, so 6 (at the ask 12 - 2 it would be 5)
    example 504 (plan_of (money (PerShare (num 2) ∷ [])) (weight 1 (ratio 1 4) ∷ [])) (plan_as None (sell 1 6 ∷ [])) ∷
    -- both: 150 × 0.5 = 75, 37.5 after the part; at the ask 10 + 2: 3.125
    example 505 (plan_of (money (PerShare (num 2) ∷ part)) (weight 2 (halves 1) ∷ [])) (plan_as None (buy 2 3 ∷ [])) ∷
    -- flat 5, then the part: 100 + (100 - 5) × 0.5 = 147.5, × 0.5 = 73.75, (73.75 - 5) × 0.5 = 34.375: 3.
    -- The part, then flat 5: 100 + (100 × 0.5 - 5) = 145, × 0.5 = 72.5, 72.5 × 0.5 - 5 = 31.25 of symbol 3 at 5: 6
    example 506 (plan_of (money (Flat (num 5) ∷ part)) (weight 2 (halves 1) ∷ [])) (plan_as None (buy 2 3 ∷ [])) ∷
    example 507 (plan_of (money (PctOfValue (halves 1) ∷ Flat (num 5) ∷ [])) (weight 3 (halves 1) ∷ [])) (plan_as None (buy 3 6 ∷ [])) ∷
    -- a budget below zero: 150 × 0.25 - 0 = 37.5 and flat 50: -12.5 / 10 is -1.25, down to -2: a sale of 2
    example 508 (plan_of (money (Flat (num 50) ∷ [])) (weight 2 (ratio 1 4) ∷ [])) (plan_as None (sell 2 2 ∷ [])) ∷
    -- 80 + 90 + 10 + 20 = 200, for 10, 2 and 4 held of the symbols 2, 3 and 4. The unquoted 0 is passed over; 100 / 12 is 8.3, a buy of 8; 0 - 90, a sale of 10;
    -- 12.5 - 10 = 2.5 is below the 5 of a share: no order; 12.5 - 20 = -7.5, at 5: a sale of 1. Sales listed first
    example 509
    (plan_of (having [] (quote 1 (num 10) (num 12) ∷ quote 2 (num 9) (num 10) ∷ quote 3 (num 5) (num 5) ∷ quote 4 (num 5) (num 6) ∷ []) (num 80)
    ((2, num 10) ∷ (3, num 2) ∷ (4, num 4) ∷ []) [])
    (weight 0 (halves 1) ∷ weight 1 (halves 1) ∷ weight 2 (num 0) ∷ weight 3 (ratio 1 16) ∷ weight 4 (ratio 1 16) ∷ []))
    (plan_as None (sell 2 10 ∷ sell 4 1 ∷ buy 1 8 ∷ [])) ∷
    -- a zero difference ends the walk: 200 × 0.5 - 100 = 0 for symbol 1; 200 × -0 - 0 = -0 for the unheld symbol 2
    example 510
    (map (plan_of (money [])) ((weight 1 (halves 1) ∷ weight 2 (halves 1) ∷ []) ∷ (weight 2 (negative 0 1) ∷ weight 3 (halves 1) ∷ []) ∷ []))
    (plan_as None [] ∷ plan_as None [] ∷ []) ∷
    -- a weight below zero, and one above 1: -200 / 9 is -22.2; 400 / 10
    example 511 (plan_of (money []) (weight 2 (negative 1 1) ∷ [])) (plan_as None (sell 2 22 ∷ [])) ∷
    example 512 (plan_of (money []) (weight 2 (num 2) ∷ [])) (plan_as None (buy 2 40 ∷ [])) ∷
    -- 0 / 0: the part 1 leaves no budget, 9 a share no price of a sale at the bid 9; NaN is a sale of its size, and draws 2
    example 513 (plan_of (having (PctOfValue (num 1) ∷ PerShare (num 9) ∷ []) (quote 2 (num 9) (num 10) ∷ []) (num 100) [] []) (weight 2 (negative 1 1) ∷ []))
    (plan_as None (market_order MarketSell 2 nan ∷ [])) ∷
    -- 13: no value to weigh. No cash, 0 or -0, and nothing held; 10 held at 10 and cash -100
    example 514
    (map (λ m. plan_told (plan_of m (weight 1 (halves 1) ∷ [])))
    (having [] (quote 1 (num 10) (num 12) ∷ []) (num 0) [] [] ∷
    having [] (quote 1 (num 10) (num 12) ∷ []) (negative 0 1) [] [] ∷
    having [] (quote 1 (num 10) (num 12) ∷ []) (negative 100 1) ((1, num 10) ∷ []) [] ∷ []))
    ((13, []) ∷ (13, []) ∷ (13, []) ∷ []) ∷
    -- an update answers the total value, not the liquidation value: 200 where that is 150. The buy of 3 is taken; the sale of 1, of 10 held, too; the third
    -- place of the lent list keeps what it held
    example 515
    (Ledger.answer (holding (money part)) (update [] [] (weight 1 (halves 1) ∷ weight 2 (halves 1) ∷ []) (blank ∷ blank ∷ blank ∷ [])))
    (updated None (num 200) 2 (event_of (sell 1 1) None ∷ event_of (buy 2 3) None ∷ blank ∷ [])) ∷ []
