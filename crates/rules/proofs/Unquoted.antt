-- Where the walk of a liquidation stops at a position without a latest quote, the rest is not zero, so the liquidation fails. Assumes nothing.
use Prim.Native.Nat.{ℕ}
use native.Mathlib.Omega.{arith}
use mathlib.Core.Bool.{false}
use mathlib.Core.List.{List, ◌∷◌}
use Rattle.std.specs.declared.option.Option.TheVariants.{None, Some}
use mathlib.Core.Path.{◌≡◌}
use lib.Ieee as Ieee
use lib.Ieee.{Float}
use Rattle.market.specs.Orders.{zero64}
use Rattle.rules.specs.Amounts.{at_most, is_zero}
use Rattle.rules.specs.Money.{Money}
use Rattle.rules.specs.Liquidation.{sales_from, if_spent}

-- a rest that 0.0 is not at or below is not zero
pub rest-not-zero : (r : Float) → at_most zero64 r ≡ false → is_zero r ≡ false
unfolding Ieee.le Ieee.eq Ieee.lt Ieee.of_bits
rest-not-zero r e = grind arith

-- a held position that has no latest quote has the value 0 in the walk; where that is not at or below the rest, no orders are found
pub unquoted-fails : (m : Money) (s : ℕ) (l : List ℕ) (h r : Float) → m.held s ≡ Some h → m.latest s ≡ None → at_most zero64 r ≡ false →
    if_spent (sales_from m (s ∷ l) r) ≡ None
unfolding sales_from
unquoted-fails m s l h r eh eq t = rw (eh, eq, t, rest-not-zero r t)
