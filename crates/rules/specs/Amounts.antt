-- Amounts: the operations of IEEE 754's binary64 on them. Definitions only.
use Rattle.std.specs.Prelude.{Bool, cond, Float}
use Rattle.std.specs.Float.Ieee as Ieee
use Rattle.std.specs.Float.{binary64}
use Rattle.market.specs.Orders.{zero64}

abbrev pub plus : Float → Float → Float
plus x y = Ieee.add binary64 x y

abbrev pub minus : Float → Float → Float
minus x y = Ieee.sub binary64 x y

abbrev pub times : Float → Float → Float
times x y = Ieee.mul binary64 x y

abbrev pub divided : Float → Float → Float
divided x y = Ieee.div binary64 x y

abbrev pub negated : Float → Float
negated x = Ieee.neg x

abbrev pub below : Float → Float → Bool
below x y = Ieee.lt x y

abbrev pub at_most : Float → Float → Bool
at_most x y = Ieee.le x y

-- equal to 0.0, so that -0.0 counts
abbrev pub is_zero : Float → Bool
is_zero x = Ieee.eq x zero64

-- the size of an amount that is not zero
abbrev pub size : Float → Float
size x = cond (below x zero64) (negated x) x
