-- What a list of costs draws, by one test of all of them. Assumes nothing.
use mathlib.Core.Path.{◌≡◌, refl}
use mathlib.Core.Bool.{Bool, true, false, not}
use mathlib.Core.List.{List, [], ◌∷◌}
use Rattle.std.specs.List.{list_all}
use Rattle.market.specs.Faults.{Test, ◌draws◌, drawn}
use Rattle.market.specs.declared.fault.Fault.TheVariants.{BadValue}
use Rattle.costs.specs.declared.BrokerCost.{BrokerCost}
use Rattle.costs.specs.Costs.{is_finite}
use Rattle.broker.specs.Build.{each_finite}

-- 2 where not all costs are finite
abbrev not-all : List BrokerCost → List Test
not-all l = (not (list_all is_finite l) draws BadValue) ∷ []

one-more : (c : BrokerCost) (l : List BrokerCost) (b : Bool) → is_finite c ≡ b → drawn (each_finite l) ≡ drawn (not-all l) → drawn (each_finite (c ∷ l)) ≡ drawn (not-all (c ∷ l))
unfolding drawn
one-more c l true e h = rw e h
one-more c l false e h = rw e refl

-- the costs one by one draw what they draw together
pub finite_drawn : (l : List BrokerCost) → drawn (each_finite l) ≡ drawn ((not (list_all is_finite l) draws BadValue) ∷ [])
unfolding drawn
finite_drawn [] = refl
finite_drawn (c ∷ l) = one-more c l (is_finite c) refl (finite_drawn l)
