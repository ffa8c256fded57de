-- Cases of document 01, section 4: what a trade makes of cash, holdings and pending; latest quotes; values; cost basis. Definitions only.
use Rattle.std.specs.Prelude.{ℕ, List, [], ◌∷◌, map, pos, Float}
use Rattle.std.specs.Prelude.{Option, None, Some}
use Rattle.market.specs.declared.trade.Trade.{Trade}
use Rattle.market.specs.declared.trade.TradeType.TheVariants.{Buy, Sell}
use Rattle.costs.specs.declared.BrokerCost.{BrokerCost}
use Rattle.costs.specs.declared.BrokerCost.TheVariants.{PerShare, PctOfValue, Flat}
use Rattle.rules.specs.Basis.{cost_basis}
use Rattle.rules.specs.Money.{Money, fetched, settled}
use Rattle.rules.specs.Values.{value_of, total_value, liquidation_value}
use Rattle.ledger.specs.Examples.{Example, example, num, halves, quote}
use Rattle.cases.specs.Made.{ratio, negative, even, even+2, trade_at, having}

-- a trade of 3 shares of symbol 1: a buy for 30, a sale for 28.5
abbrev bought : Trade
bought = trade_at Buy 1 (num 3) (num 30) (pos 7)

abbrev sold : Trade
sold = trade_at Sell 1 (num 3) (halves 57) (pos 7)

-- cash, and the symbol's holding and pending, after a trade that found this of them
abbrev after : Trade → Float → List (ℕ × Float) → List (ℕ × Float) → Float × (Option Float × Option Float)
after t cash held pending = let m = settled (having (Flat (num 10) ∷ []) [] cash held pending) t in (m.cash, (m.held 1, m.pending 1))

abbrev pub booking : List Example
booking =
    -- a buy takes its value from cash, and no costs, adds its shares to the holding and takes them off pending: 100 - 30; 0 + 3; 3 - 3 is removed
    example 421 (after bought (num 100) [] ((1, num 3) ∷ [])) (num 70, (Some (num 3), None)) ∷
    -- 2 + 3; 5 - 3
    example 422 (after bought (num 100) ((1, num 2) ∷ []) ((1, num 5) ∷ [])) (num 70, (Some (num 5), Some (num 2))) ∷
    -- absent reads as 0.0: pending 0 - 3. Cash may fall below zero: 20 - 30
    example 423 (after bought (num 20) [] []) (negative 10 1, (Some (num 3), Some (negative 3 1))) ∷
    -- -3 + 3 is removed
    example 424 (after bought (num 100) ((1, negative 3 1) ∷ []) ((1, num 3) ∷ [])) (num 70, (None, None)) ∷
    -- a sale does the reverse: 100 + 28.5; 5 - 3; -3 + 3 is removed
    example 425 (after sold (num 100) ((1, num 5) ∷ []) ((1, negative 3 1) ∷ [])) (halves 257, (Some (num 2), None)) ∷
    -- 3 - 3 is removed; -5 + 3
    example 426 (after sold (num 100) ((1, num 3) ∷ []) ((1, negative 5 1) ∷ [])) (halves 257, (None, Some (negative 2 1))) ∷
    -- of an unheld symbol: 0 - 3 is held, 0 + 3 pending
    example 427 (after sold (num 100) [] []) (halves 257, (Some (negative 3 1), Some (num 3))) ∷
    -- another symbol keeps its holding and its pending
    example 428
    (let m = settled (having [] [] (num 100) ((2, num 4) ∷ []) ((2, num 6) ∷ [])) bought in m.held 2 ∷ m.pending 2 ∷ [])
    (Some (num 4) ∷ Some (num 6) ∷ []) ∷
    -- each fetched row is its symbol's latest quote; that of 1 is kept, and 3 has none
    example 429
    (map (fetched (quote 2 (num 5) (num 6) ∷ quote 255 (num 7) (num 8) ∷ []) (having [] (quote 1 (num 9) (num 10) ∷ quote 2 (num 3) (num 4) ∷ []) (num 0) [] [])).latest
    (1 ∷ 2 ∷ 255 ∷ 3 ∷ []))
    (Some (quote 1 (num 9) (num 10)) ∷ Some (quote 2 (num 5) (num 6)) ∷ Some (quote 255 (num 7) (num 8)) ∷ None ∷ []) ∷ []

-- bids 3, 9.5 and 100 of the symbols 0, 255 and 7, asks above them; cash 100; 2 of symbol 0, 4 of 255 and 5 of the unquoted 9 are held, none of 7
abbrev portfolio : List BrokerCost → Money
portfolio costs =
    having costs (quote 0 (num 3) (num 4) ∷ quote 7 (num 100) (num 101) ∷ quote 255 (halves 19) (num 10) ∷ []) (num 100)
    ((0, num 2) ∷ (9, num 5) ∷ (255, num 4) ∷ []) []

-- cash 9,007,199,254,740,992; 1, 1 and 2 of three symbols at this bid
abbrev large : List BrokerCost → ℕ → Money
large costs bid =
    having costs (map (λ s. quote s (num bid) (num 9)) (1 ∷ 2 ∷ 3 ∷ [])) even ((1, num 1) ∷ (2, num 1) ∷ (3, num 2) ∷ []) []

abbrev pub valuing : List Example
valuing =
    -- a held symbol's value is latest bid × holding: 3 × 2, 9.5 × 4; absent without a latest quote, and without a holding
    example 441 (map (value_of (portfolio [])) (0 ∷ 255 ∷ 9 ∷ 7 ∷ [])) (Some (num 6) ∷ Some (num 38) ∷ None ∷ None ∷ []) ∷
    -- total: 100 + 6 + 38, with and without costs
    example 442 (map (λ c. total_value (portfolio c)) ([] ∷ (PctOfValue (ratio 1 4) ∷ Flat (num 2) ∷ []) ∷ [])) (num 144 ∷ num 144 ∷ []) ∷
    -- liquidation without costs: the same. A part 0.25: 100 + 6 × 0.75 + 38 × 0.75 = 100 + 4.5 + 28.5
    example 443 (map (λ c. liquidation_value (portfolio c)) ([] ∷ (PctOfValue (ratio 1 4) ∷ []) ∷ [])) (num 144 ∷ num 133 ∷ []) ∷
    -- per share acts on the price alone. Flat 10, for each position: 100 + (6 - 10) + (38 - 10)
    example 444 (map (λ c. liquidation_value (portfolio c)) ((PerShare (num 1) ∷ []) ∷ (Flat (num 10) ∷ []) ∷ [])) (num 144 ∷ num 124 ∷ []) ∷
    -- two costs in order: 100 + (6 - 2) × 0.5 + (38 - 2) × 0.5 = 120; 100 + (6 × 0.5 - 2) + (38 × 0.5 - 2) = 118
    example 445
    (map (λ c. liquidation_value (portfolio c)) ((Flat (num 2) ∷ PctOfValue (halves 1) ∷ []) ∷ (PctOfValue (halves 1) ∷ Flat (num 2) ∷ []) ∷ []))
    (num 120 ∷ num 118 ∷ []) ∷
    -- added to cash by ascending symbol: 1 and 1 change nothing, then 2 does. Descending, or the values first, it would be 9,007,199,254,740,996
    example 446 (total_value (large [] 1)) even+2 ∷
    example 447 (liquidation_value (large [] 1)) even+2 ∷
    -- the same with a part 0.5 of the values 2, 2 and 4
    example 448 (liquidation_value (large (PctOfValue (halves 1) ∷ []) 2)) even+2 ∷ []

-- a log of three symbols
abbrev log : List Trade
log =
    trade_at Buy 1 (num 10) (num 100) (pos 1) ∷ trade_at Buy 2 (num 4) (num 80) (pos 1) ∷
    trade_at Buy 1 (num 10) (num 140) (pos 2) ∷ trade_at Sell 1 (num 5) (num 90) (pos 3) ∷ trade_at Sell 3 (num 2) (num 24) (pos 3) ∷ []

abbrev pub folding : List Example
folding =
    -- cost basis by symbol: (100 + 140 - 90) / (10 + 10 - 5) = 10; 80 / 4 = 20; -24 / -2 = 12; none for a symbol without a trade
    example 481 (map (cost_basis log) (1 ∷ 2 ∷ 3 ∷ 4 ∷ [])) (Some (num 10) ∷ Some (num 20) ∷ Some (num 12) ∷ None ∷ []) ∷
    -- quantity zero clears value: -24 + 30 is cleared with -2 + 2, so that 1 for 7 has the basis 7
    example 482
    (map (λ l. cost_basis l 3) ((trade_at Sell 3 (num 2) (num 24) (pos 1) ∷ trade_at Buy 3 (num 2) (num 30) (pos 2) ∷ trade_at Buy 3 (num 1) (num 7) (pos 3) ∷ []) ∷ [] ∷ []))
    (Some (num 7) ∷ None ∷ []) ∷ []
