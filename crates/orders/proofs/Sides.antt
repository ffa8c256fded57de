-- The two sides of a list of orders: each order is of one. Assumes nothing.
use Prim.Native.Nat.{◌+◌}
use native.Mathlib.Omega.{arith}
use mathlib.Core.Bool.{true, false}
use mathlib.Core.Path.{◌≡◌, refl}
use mathlib.Core.List.{List, [], ◌∷◌}
use lib.ListN.{length}
use Rattle.market.specs.declared.order.Order.{Order}
use Rattle.orders.specs.Orders.{of_side}

pub sides : (l : List Order) → length (of_side true l) + length (of_side false l) ≡ length l
sides [] = refl
sides (o ∷ l) = grind (arith, sides l)
