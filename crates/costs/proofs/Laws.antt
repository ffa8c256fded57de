-- The costs that are kept in an array: how many they are, and one more.
use Prim.Native.Nat.{suc, ◌+◌, ◌<◌, min}
use native.Mathlib.Numerals.{add-one}
use native.Mathlib.Omega.{arith}
use mathlib.Core.Path.{◌≡◌, refl, ap, ◌∙◌}
use mathlib.Core.List.{[], ◌∷◌, ◌++◌}
use lib.ListN.{length, length-take}
use lib.Seq.{take-suc-set}
use Rattle.costs.specs.declared.BrokerCost.{BrokerCost}
use Rattle.costs.specs.declared.TradeCosts.{TradeCosts}
use Rattle.costs.specs.Kept.{costs_of, no_costs, with_cost}

module _ (c : TradeCosts) (long : length c.list ≡ 16) where
  -- a count above 16 reads as 16
  pub length-costs : length (costs_of c) ≡ min c.count 16
  unfolding costs_of
  length-costs = length-take c.count c.list ∙ ap (min c.count) long

  -- a cost is appended, where there is a place
  pub costs-with : (x : BrokerCost) → c.count < 16 → costs_of (with_cost c x) ≡ costs_of c ++ (x ∷ [])
  unfolding costs_of with_cost
  costs-with x h =
      let counted : min (c.count + 1) 18446744073709551615 ≡ suc c.count = omega (arith, add-one c.count) in
      let placed : c.count < length c.list = omega arith in
      rw (counted, take-suc-set)

pub costs-none : costs_of no_costs ≡ []
unfolding costs_of no_costs
costs-none = refl
