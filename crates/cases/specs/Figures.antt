-- Cases of document 01, section 1: whole shares and costs. Definitions only.
use Rattle.std.specs.Prelude.{Bool, true, false, replicate, Float}
use mathlib.Core.List.{List, [], ◌∷◌, map, foldl}
use Rattle.std.specs.Float.{nan, inf}
use Rattle.floats.specs.Whole.{floor_of, ceil_of}
use Rattle.market.specs.Faults.{drawn, number_drawn}
use Rattle.costs.specs.declared.BrokerCost.{BrokerCost}
use Rattle.costs.specs.declared.BrokerCost.TheVariants.{PerShare, PctOfValue, Flat}
use Rattle.costs.specs.Costs.{trade_impact_total, trade_costs, is_finite}
use Rattle.costs.specs.Kept.{costs_of, no_costs, with_cost}
use Rattle.broker.specs.Build.{builder_tests}
use Rattle.ledger.specs.Examples.{Example, example, num, halves}
use Rattle.cases.specs.Made.{ratio, negative, even, even+2}

-- 2, 1.5, 0.5, 0, -0, -0.5, -1.5, -2, the float 4,503,599,627,370,495.5 below 2 to the 52nd, infinities, NaN
abbrev floats : List Float
floats =
    num 2 ∷ halves 3 ∷ halves 1 ∷ num 0 ∷ negative 0 1 ∷ negative 1 2 ∷ negative 3 2 ∷ negative 2 1 ∷ halves 9007199254740991 ∷ inf false ∷ inf true ∷ nan ∷ []

-- what costs leave of the budget 1,000 and the price 10
abbrev left : List BrokerCost → Bool → Float × Float
left costs is_buy = let i = trade_impact_total costs (num 1000) (num 10) is_buy in (i.budget, i.price)

abbrev pub figures : List Example
figures =
    -- round down: 2, 1, 0, 0, -0, -1, -2, -2, 4,503,599,627,370,495; infinities and NaN themselves
    example 101 (map floor_of floats)
    (num 2 ∷ num 1 ∷ num 0 ∷ num 0 ∷ negative 0 1 ∷ negative 1 1 ∷ negative 2 1 ∷ negative 2 1 ∷ num 4503599627370495 ∷ inf false ∷ inf true ∷ nan ∷ []) ∷
    -- round up: 2, 2, 1, 0, -0, -0 between -1 and 0, -1, -2, 4,503,599,627,370,496
    example 102 (map ceil_of floats)
    (num 2 ∷ num 2 ∷ num 1 ∷ num 0 ∷ negative 0 1 ∷ negative 0 1 ∷ negative 1 1 ∷ negative 2 1 ∷ num 4503599627370496 ∷ inf false ∷ inf true ∷ nan ∷ []) ∷
    -- per share 0.5: a buy at 10 + 0.5
    example 103 (left (PerShare (halves 1) ∷ []) true) (num 1000, halves 21) ∷
    -- a sale at 10 - 0.5
    example 104 (left (PerShare (halves 1) ∷ []) false) (num 1000, halves 19) ∷
    -- a part 0.25: 1,000 × 0.75, of a buy and of a sale
    example 105 (left (PctOfValue (ratio 1 4) ∷ []) true) (num 750, num 10) ∷
    example 106 (left (PctOfValue (ratio 1 4) ∷ []) false) (num 750, num 10) ∷
    -- flat 2: 1,000 - 2
    example 107 (left (Flat (num 2) ∷ []) true) (num 998, num 10) ∷
    -- in order: flat 2 first, (1,000 - 2) × 0.75 = 748.5; the part first, 1,000 × 0.75 - 2 = 748
    example 108 (left (Flat (num 2) ∷ PctOfValue (ratio 1 4) ∷ []) false) (halves 1497, num 10) ∷
    example 109 (left (PctOfValue (ratio 1 4) ∷ Flat (num 2) ∷ []) false) (num 748, num 10) ∷
    -- both a per-share cost and a part; two parts: 1,000 × 0.5 × 0.5
    example 110 (left (PerShare (halves 1) ∷ PctOfValue (ratio 1 4) ∷ []) true) (num 750, halves 21) ∷
    example 111 (left (PctOfValue (halves 1) ∷ PctOfValue (halves 1) ∷ []) true) (num 250, num 10) ∷
    -- charges on 10 shares for 100: 0.5 × 10 + 100 × 0.25 + 2 = 32; none: 0.0
    example 112
    (trade_costs (PerShare (halves 1) ∷ PctOfValue (ratio 1 4) ∷ Flat (num 2) ∷ []) (num 10) (num 100) ∷ trade_costs [] (num 10) (num 100) ∷ [])
    (num 32 ∷ num 0 ∷ []) ∷
    -- the charges are added in order: 9,007,199,254,740,992 and 1 is itself, and so with the next 1; 1 + 1 first is 2 more
    example 113
    (trade_costs (Flat even ∷ Flat (num 1) ∷ Flat (num 1) ∷ []) (num 1) (num 1) ∷ trade_costs (Flat (num 1) ∷ Flat (num 1) ∷ Flat even ∷ []) (num 1) (num 1) ∷ [])
    (even ∷ even+2 ∷ []) ∷
    -- a broker keeps its costs in order
    example 114 (costs_of (with_cost (with_cost no_costs (Flat (num 2))) (PerShare (num 1)))) (Flat (num 2) ∷ PerShare (num 1) ∷ []) ∷
    -- a cost that is not finite, of each kind, and one that is
    example 115 (map is_finite (PerShare (inf false) ∷ PctOfValue nan ∷ Flat (inf true) ∷ Flat (num 2) ∷ [])) (false ∷ false ∷ false ∷ true ∷ []) ∷
    -- 16 costs, as many as a broker has: 1,000 less 16
    example 116 (left (costs_of (foldl with_cost no_costs (replicate 16 (Flat (num 1))))) true) (num 984, num 10) ∷
    -- the builder's numbers: 16 costs pass; 17 draw 14, which comes before 2; a cost that is not finite draws 2
    example 117
    (map number_drawn (drawn (builder_tests 16 1 (Flat (num 1) ∷ [])) ∷ drawn (builder_tests 17 1 (Flat nan ∷ [])) ∷ drawn (builder_tests 2 1 (Flat (num 1) ∷ PerShare nan ∷ [])) ∷ []))
    (0 ∷ 14 ∷ 2 ∷ []) ∷ []
