-- Cases of document 02, request 1: lots. Definitions only.
use Rattle.std.specs.Prelude.{ℕ, true, false, List, [], ◌∷◌, map, Float}
use Rattle.std.specs.Prelude.{Option, None, Some}
use Rattle.std.specs.Float.{nan, inf}
use Rattle.floats.specs.Lots.{is_lot, lot_shares}
use Rattle.market.specs.Faults.{drawn, number_drawn}
use Rattle.market.specs.declared.fault.Fault.TheVariants.{BeyondLot}
use Rattle.market.specs.Orders.{zero64, market_order, event_of}
use Rattle.market.specs.declared.order.OrderEvent.{OrderEvent}
use Rattle.market.specs.declared.order.OrderType.TheVariants.{MarketSell}
use Rattle.market.specs.declared.quote.Quote.{Quote}
use Rattle.orders.specs.Orders.{Taken}
use Rattle.costs.specs.declared.BrokerCost.{BrokerCost}
use Rattle.costs.specs.declared.BrokerCost.TheVariants.{PerShare, PctOfValue, Flat}
use Rattle.rules.specs.Money.{Money, failed_if}
use Rattle.rules.specs.Liquidation.{sales_for}
use Rattle.rules.specs.Weights.{plan_of, plan_as}
use Rattle.broker.specs.Build.{builder_tests}
use Rattle.ledger.specs.Calls.{deposit, send, check, updated, update}
use Rattle.ledger.specs.Ledger as Ledger
use Rattle.ledger.specs.Examples.{Example, example, num, halves, quote, weight, buy, sell}
use Rattle.cases.specs.Made.{ratio, negative, having, in_lots, holding, plan_told, numbered}

-- 2 to the 52nd, and the floats before it, on both sides of zero; infinities and NaN
abbrev edge : List Float
edge =
    num 4503599627370496 ∷ halves 9007199254740991 ∷ negative 4503599627370496 1 ∷ negative 9007199254740991 2 ∷ inf false ∷ inf true ∷ nan ∷ []

-- symbol 1 at bid 10 and ask 12, of which 10 are held, worth 100; symbol 2 at bid 9 and ask 10; symbol 3 at a bid and an ask of 2 to the -50th; cash 100
abbrev money : List BrokerCost → Money
money costs =
    having costs (quote 1 (num 10) (num 12) ∷ quote 2 (num 9) (num 10) ∷ quote 3 (ratio 1 1125899906842624) (ratio 1 1125899906842624) ∷ []) (num 100) ((1, num 10) ∷ []) []

-- what stands in a lent list of events before the call
abbrev blank : OrderEvent
blank = event_of (sell 0 0) None

-- an update at lot 2 whose second row draws 18, and that fetches a quote of symbol 4
abbrev refused_update : Ledger.Ledger
refused_update =
    Ledger.step (holding (in_lots 2 (money []))) (update [] (quote 4 (num 7) (num 8) ∷ []) (weight 2 (halves 1) ∷ weight 3 (halves 1) ∷ []) (blank ∷ blank ∷ []))

-- symbol 2 at bid 9 and ask 10
abbrev rows : List Quote
rows = quote 2 (num 9) (num 10) ∷ []

-- a symbol's latest quote, and the orders that wait
abbrev latest_and_waiting : Ledger.Ledger → ℕ → Option Quote × List Taken
latest_and_waiting L s = (L.money.latest s, L.orders.waiting)

abbrev pub lots : List Example
lots =
    -- a lot is 1 to 1,000,000
    example 1001 (map is_lot (0 ∷ 1 ∷ 1000000 ∷ 1000001 ∷ 4294967295 ∷ [])) (false ∷ true ∷ true ∷ false ∷ false ∷ []) ∷
    -- by 5: 16.5 gives 15, 15 itself, 4.5 and 0 give 0, -0 itself, -0.5 and -5 give -5, -5.5 gives -10
    example 1002
    (map (lot_shares 5) (halves 33 ∷ num 15 ∷ halves 9 ∷ num 0 ∷ negative 0 1 ∷ negative 1 2 ∷ negative 5 1 ∷ negative 11 2 ∷ []))
    (map (λ x. Some x) (num 15 ∷ num 15 ∷ num 0 ∷ num 0 ∷ negative 0 1 ∷ negative 5 1 ∷ negative 5 1 ∷ negative 10 1 ∷ [])) ∷
    -- by 2, from 2 to the 52nd on nothing is rounded; 4,503,599,627,370,495.5 below it gives 4,503,599,627,370,494, and its negative -4,503,599,627,370,496
    example 1003 (map (lot_shares 2) edge)
    (None ∷ Some (num 4503599627370494) ∷ None ∷ Some (negative 4503599627370496 1) ∷ None ∷ None ∷ None ∷ []) ∷
    -- by 1,000,000: 4,503,599,627 and 4,503,599,628 millions, the latter above 2 to the 52nd and exact
    example 1004 (map (lot_shares 1000000) (halves 9007199254740991 ∷ negative 9007199254740991 2 ∷ []))
    (Some (num 4503599627000000) ∷ Some (negative 4503599628000000 1) ∷ []) ∷
    -- by 1 as before, whatever the quotient: 4,503,599,627,370,495.5 gives 4,503,599,627,370,495, and its negative -4,503,599,627,370,496
    example 1005 (map (lot_shares 1) edge)
    (map (λ x. Some x) (num 4503599627370496 ∷ num 4503599627370495 ∷ negative 4503599627370496 1 ∷ negative 4503599627370496 1 ∷ inf false ∷ inf true ∷ nan ∷ [])) ∷
    -- the builder: 17 at 0 and at 1,000,001; 14 before 17, 17 before 2
    example 1006
    (map number_drawn (drawn (builder_tests 0 0 []) ∷ drawn (builder_tests 0 1000001 []) ∷ drawn (builder_tests 0 1000000 []) ∷ drawn (builder_tests 17 0 []) ∷ drawn (builder_tests 1 0 (Flat nan ∷ [])) ∷ drawn (builder_tests 1 5 (Flat nan ∷ [])) ∷ []))
    (17 ∷ 17 ∷ 0 ∷ 14 ∷ 17 ∷ 2 ∷ []) ∷
    -- by 4: 200 × 0.5 = 100 at the ask 10 is 10, down to 8; 200 × 0.25 - 100 = -50 at the bid 10 is 5, down to 4, a sale; 200 × 0.125 = 25 is 2.5: no order
    example 1007
    (map (plan_of (in_lots 4 (money []))) ((weight 2 (halves 1) ∷ []) ∷ (weight 1 (ratio 1 4) ∷ []) ∷ (weight 2 (ratio 1 8) ∷ []) ∷ []))
    (plan_as None (buy 2 8 ∷ []) ∷ plan_as None (sell 1 4 ∷ []) ∷ plan_as None [] ∷ []) ∷
    -- flat 50, by 4: 150 × 0.25 = 37.5, less 50 at the ask 10 is -1.25, down to -4: a sale of 4. 150 × 0.5 - 100 = -25, 25 - 50 at the bid 10 is -2.5, down to -4:
    -- negated for a difference below zero, a buy of 4
    example 1008
    (map (plan_of (in_lots 4 (money (Flat (num 50) ∷ [])))) ((weight 2 (ratio 1 4) ∷ []) ∷ (weight 1 (halves 1) ∷ []) ∷ []))
    (plan_as None (sell 2 4 ∷ []) ∷ plan_as None (buy 1 4 ∷ []) ∷ []) ∷
    -- 100 over 2 to the -50th is above 2 to the 52nd: 18, and the order before it is not listed. By 1 it draws nothing: 100 × 1,125,899,906,842,624
    example 1009
    (map (λ lot. plan_told (plan_of (in_lots lot (money [])) (weight 2 (halves 1) ∷ weight 3 (halves 1) ∷ []))) (2 ∷ 1 ∷ []))
    ((18, []) ∷ (0, buy 2 10 ∷ buy 3 112589990684262400 ∷ []) ∷ []) ∷
    -- an unquoted symbol has no quotient, and the walk goes on to the row that draws 18; a zero difference ends it before
    example 1010
    (map (λ l. plan_told (plan_of (in_lots 2 (money [])) l)) ((weight 0 (halves 1) ∷ weight 3 (halves 1) ∷ []) ∷ (weight 1 (halves 1) ∷ weight 3 (halves 1) ∷ []) ∷ []))
    ((18, []) ∷ (0, []) ∷ []) ∷
    -- 13 comes first: 5 held at 10 are 50, of which flat 50 leaves no value, and (50 - 50) / (10 - 10) is NaN; with 1 in cash (49.5 - 50) / 0 is an infinity, and 18
    example 1011
    (map (λ cash. plan_told (plan_of (in_lots 10 (having (Flat (num 50) ∷ PerShare (num 10) ∷ []) (quote 1 (num 10) (num 10) ∷ []) cash ((1, num 5) ∷ []) [])) (weight 1 (halves 1) ∷ [])))
    (num 0 ∷ num 1 ∷ []))
    ((13, []) ∷ (18, []) ∷ []) ∷
    -- 0 / 0 is NaN: 18 by 2 (by 1 it is case 513, a sale of NaN)
    example 1012
    (plan_told (plan_of (in_lots 2 (having (PctOfValue (num 1) ∷ PerShare (num 9) ∷ []) (quote 2 (num 9) (num 10) ∷ []) (num 100) [] [])) (weight 2 (negative 1 1) ∷ [])))
    (18, []) ∷
    -- an update: 18, total 0.0, no event, the lent list as it was; its check stands, so the fetched quote is the latest, and no order waits
    example 1013
    (numbered (Ledger.answer (holding (in_lots 2 (money []))) (update [] (quote 4 (num 7) (num 8) ∷ []) (weight 2 (halves 1) ∷ weight 3 (halves 1) ∷ []) (blank ∷ blank ∷ []))))
    (updated (Some BeyondLot) zero64 0 (blank ∷ blank ∷ []), 18) ∷
    example 1014 (latest_and_waiting refused_update 4) (Some (quote 4 (num 7) (num 8)), []) ∷
    -- a liquidation keeps its fraction at lot 100: 10 held at bid 8, 20 / 8 is 2.5
    example 1015 (sales_for (in_lots 100 (having [] (quote 1 (num 8) (num 9) ∷ []) (num 0) ((1, num 10) ∷ []) [])) (num 20)) (Some (market_order MarketSell 1 (halves 5) ∷ [])) ∷
    -- the lot of the start is kept by a deposit, a send, a check that books it and one that trades: cash 1,000 - 3 × 10 = 970, 3 held at 9 are 27;
    -- 997 × 0.5 - 27 = 471.5, at 10 47.15, by 4: 44
    example 1016
    (plan_of (Ledger.run (Ledger.start [] 4 rows 8) (deposit (num 1000) ∷ send (buy 2 3) ∷ check [] [] ∷ check rows rows ∷ [])).money (weight 2 (halves 1) ∷ []))
    (plan_as None (buy 2 44 ∷ [])) ∷
    -- and where a liquidation failed
    example 1017 (failed_if true (in_lots 4 (money []))).lot 4 ∷ []
