-- `number::float` meets its contract: what the digits that are left make of n is what the whole word makes. Assumes nothing.
use Prim.Native.Nat.{◌^◌, ◌<◌}
use mathlib.Core.Path.{◌≡◌}
use lib.ListN.{drop}
use Rattle.words.specs.Numbers.{float_of}
use Rattle.words.proofs.Digits.{bits-from}
use Rattle.words.proofs.number.float.Given as goal

abbrev pub invariant-loop-b : goal.invariant-loop-b
invariant-loop-b l = (l.n < 16 ^ l.b-index) × (bits-from l.n (drop l.b-index l.s) ≡ float_of l.s)
