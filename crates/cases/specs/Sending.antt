-- Cases of document 01, section 4: which sent order draws which number, and what it makes of pending. Definitions only.
use Rattle.std.specs.Prelude.{ℕ, true, false, List, [], ◌∷◌, map, replicate, Float}
use Rattle.std.specs.Prelude.{Option, None, Some}
use Rattle.std.specs.Float.{nan}
use Rattle.market.specs.Faults.{◌draws◌, drawn, number_drawn}
use Rattle.market.specs.declared.fault.Fault.TheVariants.{LogFull, BookFull}
use Rattle.market.specs.Orders.{market_order, priced_order}
use Rattle.market.specs.declared.order.Order.{Order}
use Rattle.market.specs.declared.order.OrderType.TheVariants.{MarketSell, MarketBuy, LimitSell, LimitBuy, StopSell, StopBuy}
use Rattle.orders.specs.Orders.{plain}
use Rattle.rules.specs.Money.{Money, expected, failed_if}
use Rattle.rules.specs.Sends.{send_tests}
use Rattle.ledger.specs.Ledger.{insert_event}
use Rattle.ledger.specs.Examples.{Example, example, num, halves, quote, buy, sell}
use Rattle.cases.specs.Made.{negative, having}

-- symbol 1 at bid 9 and ask 10; this cash, and these holdings of it
abbrev with : Float → List (ℕ × Float) → Money
with cash held = having [] (quote 1 (num 9) (num 10) ∷ []) cash held []

-- the number that an order draws, or 0, the exchange having room
abbrev fault : Money → Order → ℕ
fault m o = number_drawn (drawn (send_tests m [] o))

-- the same where 10 and 11 both hold
abbrev crowded : Money → Order → ℕ
crowded m o = number_drawn (drawn (send_tests m ((true draws LogFull) ∷ (true draws BookFull) ∷ []) o))

-- pending of symbols 1 and 2 after a send, p being what was pending before
abbrev pending_after : List (ℕ × Float) → Order → List (Option Float)
pending_after p o = map (expected o (having [] [] (num 0) [] p)).pending (1 ∷ 2 ∷ [])

-- the number that a direct insertion draws, or 0, where so many orders wait and the log has so many rows
abbrev room_for : ℕ → ℕ → ℕ
room_for rows orders =
    number_drawn (insert_event
    (record { room = rows; money = with (num 0) []; orders = record { waiting = replicate orders (plain (sell 1 1)); booked = []; trades = [] } })
    (sell 1 1)).fault

abbrev pub sending : List Example
sending =
    -- a buy passes if cash > shares × ask: 10 × 10 = 100 is above 95, as 10 × 9 would not be; it is not below 100; it is below 100.5
    example 401 (map (λ c. fault (with c []) (buy 1 10)) (num 95 ∷ num 100 ∷ halves 201 ∷ [])) (7 ∷ 7 ∷ 0 ∷ []) ∷
    -- a buy of zero shares: 0 > 0 × 10 fails, 7; with cash 1 it is 9
    example 402 (map (λ c. fault (with c []) (buy 1 0)) (num 0 ∷ num 1 ∷ [])) (7 ∷ 9 ∷ []) ∷
    -- a sale of a held symbol passes if holding >= shares: 5 of 5, not 5.5; cash is not asked for
    example 403 (map (λ n. fault (with (num 0) ((1, num 5) ∷ [])) (market_order MarketSell 1 n)) (num 5 ∷ halves 11 ∷ [])) (0 ∷ 8 ∷ []) ∷
    -- a sale of an unheld symbol passes; of zero shares it is 9, and -0 is zero
    example 404 (map (λ n. fault (with (num 0) []) (market_order MarketSell 1 n)) (num 3 ∷ num 0 ∷ negative 0 1 ∷ [])) (0 ∷ 9 ∷ 9 ∷ []) ∷
    -- -2 are held: 1 is more than that, and so is 0, for which 8 comes before 9; a buy asks for cash alone
    example 405 (map (fault (with (num 100) ((1, negative 2 1) ∷ []))) (sell 1 1 ∷ sell 1 0 ∷ buy 1 3 ∷ [])) (8 ∷ 8 ∷ 0 ∷ []) ∷
    -- 5: symbol 2 has no latest quote; it comes before 6. 6: the limit and stop kinds; it comes before 7, 8 and 9
    example 406 (map (fault (with (num 0) [])) (buy 2 1 ∷ sell 2 0 ∷ priced_order LimitBuy 2 (num 1) (num 9) ∷ [])) (5 ∷ 5 ∷ 5 ∷ []) ∷
    example 407
    (map (λ k. fault (with (num 0) ((1, num 5) ∷ [])) (priced_order k 1 (num 9) (num 9))) (LimitBuy ∷ LimitSell ∷ StopBuy ∷ StopSell ∷ MarketBuy ∷ MarketSell ∷ []))
    (6 ∷ 6 ∷ 6 ∷ 6 ∷ 7 ∷ 8 ∷ []) ∷
    -- 4: a Failed broker, for what would be taken, for an unquoted symbol and for a limit order; 1 and 2 come before it
    example 408
    (map (fault (failed_if true (with (num 100) [])))
    (buy 1 1 ∷ sell 1 0 ∷ buy 2 1 ∷ priced_order LimitBuy 1 (num 1) (num 9) ∷ buy 256 1 ∷ market_order MarketSell 1 nan ∷ []))
    (4 ∷ 4 ∷ 4 ∷ 4 ∷ 1 ∷ 2 ∷ []) ∷
    -- 10 and 11 come last: after 7, 8 and 9; 10 before 11
    example 409
    (map (crowded (with (num 100) ((1, num 5) ∷ []))) (buy 1 10 ∷ sell 1 6 ∷ sell 1 0 ∷ sell 1 5 ∷ []))
    (7 ∷ 8 ∷ 9 ∷ 10 ∷ []) ∷
    -- Ready stays so without a failure, Failed for good
    example 410 ((failed_if false (with (num 0) [])).failed ∷ (failed_if false (failed_if true (with (num 0) []))).failed ∷ []) (false ∷ true ∷ []) ∷
    -- pending: a buy of 3 raises it, none to 3 and 2 to 5; other symbols keep theirs
    example 411 (pending_after [] (buy 1 3)) (Some (num 3) ∷ None ∷ []) ∷
    example 412 (pending_after ((1, num 2) ∷ (2, num 7) ∷ []) (buy 1 3)) (Some (num 5) ∷ Some (num 7) ∷ []) ∷
    -- a sale of 3 lowers it, none to -3 and 5 to 2
    example 413 (pending_after [] (sell 1 3)) (Some (negative 3 1) ∷ None ∷ []) ∷
    example 414 (pending_after ((1, num 5) ∷ []) (sell 1 3)) (Some (num 2) ∷ None ∷ []) ∷
    -- a sum of zero stays present
    example 415 (pending_after ((1, num 3) ∷ []) (sell 1 3)) (Some (num 0) ∷ None ∷ []) ∷
    example 416 (pending_after ((1, negative 3 1) ∷ []) (buy 1 3)) (Some (num 0) ∷ None ∷ []) ∷
    -- cash and holdings do not move
    example 417 ((expected (buy 1 3) (with (num 100) ((1, num 5) ∷ []))).cash ∷ []) (num 100 ∷ []) ∷
    example 418 ((expected (buy 1 3) (with (num 100) ((1, num 5) ∷ []))).held 1) (Some (num 5)) ∷
    -- 10 where the orders taken are as many as the log has rows, before 11 where 1,024 rest and wait; one order fewer passes
    example 419 (room_for 1024 1024 ∷ room_for 2000 1024 ∷ room_for 2000 1023 ∷ room_for 1024 1023 ∷ []) (10 ∷ 11 ∷ 0 ∷ 0 ∷ []) ∷ []
