-- A list of at most 16 costs, kept in an array with a count.
use Rattle.std.specs.Prelude.{◌+◌, min, List, take, set, replicate}
use Rattle.costs.specs.declared.BrokerCost.{BrokerCost}
use Rattle.costs.specs.declared.BrokerCost.TheVariants.{Flat}
use Rattle.costs.specs.declared.TradeCosts.{TradeCosts}
use Rattle.costs.specs.Costs.{zero64}

-- the costs that are kept, in order; the array has 16 places, so a count above 16 reads as 16
unfoldable pub costs_of : TradeCosts → List BrokerCost
costs_of c = take c.count c.list

-- no cost: the places hold a flat 0.0, and none is read
unfoldable pub no_costs : TradeCosts
no_costs = record { list = replicate 16 (Flat zero64); count = 0 }

-- one cost more: it is stored where there is a place, and the count rises up to the largest usize
unfoldable pub with_cost : TradeCosts → BrokerCost → TradeCosts
with_cost c x = record { list = set c.list c.count x; count = min (c.count + 1) 18446744073709551615 }
