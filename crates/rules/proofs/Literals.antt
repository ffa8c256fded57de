-- The float literals that ledger and program share, tied to the whole numbers that document 01 names. Assumes nothing.
use mathlib.Core.Path.{◌≡◌, refl}
use lib.IntN.{pos}
use lib.Ieee as Ieee
use lib.Ieee.{binary64}
use Rattle.market.specs.Orders.{zero64}
use Rattle.costs.specs.Costs as Costs
use Rattle.rules.specs.Liquidation.{buffer}

-- the 1,000.0 added to a shortfall
pub buffer-is : buffer ≡ Ieee.of_int binary64 (pos 1000)
unfolding Ieee.of_bits Ieee.of_int
buffer-is = refl

-- the 1 of a part's 1-p
pub one-is : Costs.one64 ≡ Ieee.of_int binary64 (pos 1)
unfolding Ieee.of_bits Ieee.of_int
one-is = refl

-- 0.0
pub zero_is : zero64 ≡ Ieee.of_int binary64 (pos 0)
unfolding Ieee.of_bits Ieee.of_int
zero_is = refl
