-- The plan of a broker with lot 1 is document 01's, in whole shares and without 18. Assumes nothing.
use Prim.Native.Nat.{ℕ}
use native.Mathlib.Omega.{arith}
use mathlib.Core.Bool.{Bool, false}
use mathlib.Core.List.{List, [], ◌∷◌}
use Rattle.std.specs.declared.option.Option.{Option}
use Rattle.std.specs.declared.option.Option.TheVariants.{Some}
use mathlib.Core.Path.{◌≡◌, refl, ap, ◌∙◌}
use lib.Ieee.{Float}
use Rattle.std.specs.Prelude.{unwrap_or}
use Rattle.lists.specs.Lists.{given}
use Rattle.market.specs.Faults.{◌draws◌, drawn}
use Rattle.market.specs.declared.fault.Fault.{Fault}
use Rattle.market.specs.declared.fault.Fault.TheVariants.{NothingToWeigh, BeyondLot}
use Rattle.market.specs.declared.order.Order.{Order}
use Rattle.market.specs.declared.quote.Quote.{Quote}
use Rattle.market.specs.declared.weight.Weight.{Weight}
use Rattle.costs.specs.declared.BrokerCost.{BrokerCost}
use Rattle.floats.specs.Lots.{lot_shares}
use Rattle.orders.specs.Orders.{sells_first}
use Rattle.rules.specs.Amounts.{is_zero}
use Rattle.rules.specs.Money.{Money}
use Rattle.rules.specs.Values.{liquidation_value}
use Rattle.rules.specs.Weights.{shares_for, order_for, orders_at, difference, wanted, Plan, plan_tests, plan_as, plan_of}
use Rattle.rules.specs.WholeShares.{whole_shares, whole_walk, whole_plan}

shares_whole : (costs : List BrokerCost) (d : Float) (q : Quote) → shares_for 1 costs d q ≡ Some (whole_shares costs d q)
unfolding shares_for lot_shares
shares_whole costs d q = grind arith

-- the orders of a row, in whole shares
abbrev whole_row : List BrokerCost → ℕ → Float → Option Quote → List Order
whole_row costs s d q = given q [] (λ x. order_for s (whole_shares costs d x))

row-whole : (costs : List BrokerCost) (s : ℕ) (d : Float) (q : Option Quote) → orders_at 1 costs s d q ≡ Some (whole_row costs s d q)
row-whole costs s d q = grind (arith, shares_whole costs d)

module _ (m : Money) (e : m.lot ≡ 1) where
  walk-whole : (v : Float) (l : List Weight) → wanted m v l ≡ Some (whole_walk m v l)
  unfolding wanted whole_walk
  walk-whole v [] = refl
  walk-whole v (w ∷ l) =
      grind (arith, e, row-whole m.costs w.symbol (difference m v w) (m.latest w.symbol), walk-whole v l)

  -- the plan by its walk
  abbrev planned : Option (List Order) → Plan
  planned walk = plan_as (drawn (plan_tests (liquidation_value m) walk)) (sells_first (unwrap_or walk []))

  -- 18 is not drawn where the walk is there
  thirteen : (b : Bool) → drawn ((b draws NothingToWeigh) ∷ (false draws BeyondLot) ∷ []) ≡ drawn ((b draws NothingToWeigh) ∷ [])
  unfolding drawn
  thirteen b = grind arith

  pub lot-one-plan : (l : List Weight) → plan_of m l ≡ whole_plan m l
  unfolding plan_of whole_plan
  lot-one-plan l =
      ap planned (walk-whole (liquidation_value m) l)
      ∙ ap (λ (n : Option Fault). plan_as n (sells_first (whole_walk m (liquidation_value m) l))) (thirteen (is_zero (liquidation_value m)))
