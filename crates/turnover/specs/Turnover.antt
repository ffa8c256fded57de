-- Turnover: document 01, section 7, by the fund convention of document 02, request 4. Definitions only.
use Rattle.std.specs.Prelude.{true, cond, ◌≡◌, Float}
use mathlib.Core.List.{List, foldl}
use Rattle.lists.specs.Lists.{All}
use Rattle.market.specs.Orders.{zero64}
use Rattle.market.specs.declared.trade.Trade.{Trade}
use Rattle.market.specs.declared.trade.TradeType.{TradeType}
use Rattle.market.specs.declared.trade.TradeType.TheVariants.{Buy, Sell}
use Rattle.rules.specs.Amounts.{plus, below}
use Rattle.turnover.specs.declared.Sums.{Sums}

-- bought values and sold values are summed separately, by the trade's side
abbrev pub add_to : TradeType → Sums → Float → Sums
add_to Buy s v = record { bought = plus s.bought v; sold = s.sold }
add_to Sell s v = record { bought = s.bought; sold = plus s.sold v }

abbrev pub add_sums : Sums → Trade → Sums
add_sums s x = add_to x.typ s x.value

-- each from 0.0
abbrev pub no_sums : Sums
no_sums = record { bought = zero64; sold = zero64 }

-- in log order
abbrev pub turnover_sums : List Trade → Sums
turnover_sums log = foldl add_sums no_sums log

-- the bought sum where it is below the sold one, else the sold one
abbrev pub lesser : Sums → Float
lesser s = cond (below s.bought s.sold) s.bought s.sold

unfoldable pub turnover : List Trade → Float
turnover log = lesser (turnover_sums log)

-- ---- the request's own sentence: a log with only buys, of values above zero

abbrev pub OnlyBuys : List Trade → Type 0
OnlyBuys log = All (λ x. (x.typ ≡ Buy) × (below zero64 x.value ≡ true)) log
