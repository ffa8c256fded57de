-- Cases of document 02, request 4: turnover by the fund convention. Definitions only.
use Rattle.std.specs.Prelude.{false, true, List, [], ◌∷◌, ◌++◌, map, pos, Float}
use Rattle.std.specs.Float.{nan, inf}
use Rattle.market.specs.declared.trade.Trade.{Trade}
use Rattle.market.specs.declared.trade.TradeType.{TradeType}
use Rattle.market.specs.declared.trade.TradeType.TheVariants.{Buy, Sell}
use Rattle.turnover.specs.Turnover.{turnover}
use Rattle.ledger.specs.Examples.{Example, example, num}
use Rattle.cases.specs.Made.{negative, even, even+2, trade_at}

-- trades of one side with these values, of 7 shares each
abbrev side : TradeType → List Float → List Trade
side k l = map (λ v. trade_at k 1 (num 7) v (pos 1)) l

abbrev bought : List Float → List Trade
bought l = side Buy l

abbrev sold : List Float → List Trade
sold l = side Sell l

abbrev pub turnovers : List Example
turnovers =
    -- only buys, of values above zero: 0.0, infinity among them; only sales: 0.0; none: 0.0
    example 4001
    (map turnover (bought (num 20 ∷ []) ∷ bought (num 100 ∷ num 80 ∷ []) ∷ bought (inf false ∷ num 1 ∷ []) ∷ sold (num 30 ∷ []) ∷ [] ∷ []))
    (num 0 ∷ num 0 ∷ num 0 ∷ num 0 ∷ num 0 ∷ []) ∷
    -- the bought sum where it is below: 20 of 20 and 30. Else the sold one: 30 of 20 + 40 and 30; 60 of 60 and 30 + 30
    example 4002
    (map turnover (
    (bought (num 20 ∷ []) ++ sold (num 30 ∷ [])) ∷
    (bought (num 20 ∷ []) ++ sold (num 30 ∷ []) ++ bought (num 40 ∷ [])) ∷
    (bought (num 20 ∷ []) ++ sold (num 30 ∷ []) ++ bought (num 40 ∷ []) ++ sold (num 30 ∷ [])) ∷ []))
    (num 20 ∷ num 30 ∷ num 60 ∷ []) ∷
    -- of all symbols: 100 + 80 + 140 bought, 90 + 24 sold
    example 4003
    (turnover (
    trade_at Buy 1 (num 10) (num 100) (pos 1) ∷ trade_at Buy 2 (num 4) (num 80) (pos 1) ∷ trade_at Buy 1 (num 10) (num 140) (pos 2) ∷
    trade_at Sell 1 (num 5) (num 90) (pos 3) ∷ trade_at Sell 3 (num 2) (num 24) (pos 3) ∷ []))
    (num 114) ∷
    -- each sum in log order: 1 and 1 before 9,007,199,254,740,992 are 2 more, after it nothing; the other side has more
    example 4004
    (map turnover (
    (sold (even+2 ∷ num 9 ∷ []) ++ bought (num 1 ∷ num 1 ∷ even ∷ [])) ∷ (sold (even+2 ∷ num 9 ∷ []) ++ bought (even ∷ num 1 ∷ num 1 ∷ [])) ∷
    (bought (even+2 ∷ num 9 ∷ []) ++ sold (num 1 ∷ num 1 ∷ even ∷ [])) ∷ (bought (even+2 ∷ num 9 ∷ []) ++ sold (even ∷ num 1 ∷ num 1 ∷ [])) ∷ []))
    (even+2 ∷ even ∷ even+2 ∷ even ∷ []) ∷
    -- two sums, and not one of all and a difference: 1 and 1 behind 9,007,199,254,740,992 add nothing, also where as much was sold between
    example 4005 (turnover (bought (even ∷ []) ++ sold (even ∷ []) ++ bought (num 1 ∷ num 1 ∷ []))) even ∷
    -- the side is the trade's, not the sign of its value: -30 bought alone, and beside -20 sold; with 50 more bought the sold sum is the lesser
    example 4006
    (map turnover (
    bought (negative 30 1 ∷ []) ∷
    (bought (negative 30 1 ∷ []) ++ sold (negative 20 1 ∷ [])) ∷
    (bought (negative 30 1 ∷ []) ++ sold (negative 20 1 ∷ []) ++ bought (num 50 ∷ [])) ∷ []))
    (negative 30 1 ∷ negative 30 1 ∷ negative 20 1 ∷ []) ∷
    -- NaN is below nothing, and nothing below NaN: the sold sum
    example 4007
    (map turnover (
    (bought (inf false ∷ inf true ∷ []) ++ sold (num 6 ∷ [])) ∷ (bought (num 6 ∷ []) ++ sold (inf false ∷ inf true ∷ [])) ∷
    (bought (nan ∷ []) ++ sold (num 6 ∷ [])) ∷ []))
    (num 6 ∷ nan ∷ num 6 ∷ []) ∷
    -- no sum that starts from 0.0 is -0.0
    example 4008 (map turnover (bought (negative 0 1 ∷ []) ∷ sold (negative 0 1 ∷ []) ∷ [])) (num 0 ∷ num 0 ∷ []) ∷ []
