-- `decimal::decimal` meets its contract: what the digits that are left make of n is what the whole text makes. Assumes nothing.
use Prim.Native.Nat.{◌+◌, ◌^◌, ◌≤◌}
use mathlib.Core.Path.{◌≡◌}
use lib.ListN.{drop}
use Rattle.numerals.specs.Numerals.{decimal_in, capped_in}
use Rattle.numerals.proofs.Caps.{from}
use Rattle.numerals.proofs.decimal.decimal.Given as goal

abbrev pub invariant-loop-b : goal.invariant-loop-b
invariant-loop-b l = (l.n ≤ 2 ^ 63 + 1) × (from l.n (drop l.b-index l.s) ≡ capped_in (decimal_in l.s))
