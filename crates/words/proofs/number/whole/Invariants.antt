-- `number::whole` meets its contract: what the digits that are left make of n is what the whole word makes. Assumes nothing.
use Prim.Native.Nat.{◌^◌, ◌<◌}
use mathlib.Core.Path.{◌≡◌}
use lib.ListN.{drop}
use Rattle.words.specs.Numbers.{whole_of}
use Rattle.words.proofs.Digits.{whole_from}
use Rattle.words.proofs.number.whole.Given as goal

abbrev pub invariant-loop-b : goal.invariant-loop-b
invariant-loop-b l = (l.n < 2 ^ 64) × (whole_from l.n (drop l.b-index l.s) ≡ whole_of l.s)
