-- `settle_in` meets its contract: the funds so far are those of the trades so far.
use mathlib.Core.Path.{◌≡◌}
use mathlib.Core.List.{foldl}
use lib.ListN.{take}
use Rattle.portfolio.specs.Booking.{settle_one}
use Rattle.portfolio.proofs.booking.settle_in.Given as goal

abbrev pub invariant-loop-t : goal.invariant-loop-t
invariant-loop-t l = l.funds ≡ foldl settle_one l.fn.funds (take l.t-index l.trades)
