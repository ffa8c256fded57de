-- Cost basis: document 01, section 4, as a fold of trades. Definitions only.
use Rattle.std.specs.Prelude.{ℕ, cond, eqb, Float}
use mathlib.Core.List.{List, foldl}
use Rattle.std.specs.Prelude.{Option, None, Some}
use Rattle.market.specs.Orders.{zero64}
use Rattle.market.specs.declared.trade.Trade.{Trade}
use Rattle.rules.specs.Amounts.{divided, is_zero}
use Rattle.rules.specs.Money.{adding}

-- a symbol's quantity and value so far
pub record Basis : Type 0 where
  pub quantity : Float
  pub value : Float

-- a buy adds quantity and value, a sell subtracts both, quantity zero clears value
abbrev pub cleared : Float → Float → Basis
cleared q v = record { quantity = q; value = cond (is_zero q) zero64 v }

unfoldable pub basis_step : ℕ → Basis → Trade → Basis
basis_step s b x =
    cond (eqb x.symbol s)
    (cleared (adding x.typ b.quantity x.quantity) (adding x.typ b.value x.value))
    b

-- none at zero, else value / quantity
abbrev pub basis_of : Basis → Option Float
basis_of b = cond (is_zero b.quantity) None (Some (divided b.value b.quantity))

unfoldable pub cost_basis : List Trade → ℕ → Option Float
cost_basis log s = basis_of (foldl (basis_step s) (record { quantity = zero64; value = zero64 }) log)
