-- `spelled::spell` meets its contract: the digits that are still to be stored, on the array as it is, make what is returned. Assumes nothing.
use Prim.Native.Nat.{◌≤◌}
use mathlib.Core.Path.{◌≡◌}
use lib.ListN.{length}
use Rattle.lists.specs.Lists.{stored}
use Rattle.numerals.specs.Numerals.{last_digits}
use Rattle.numerals.proofs.spelled.spell.Given as goal

abbrev pub invariant-loop-i : goal.invariant-loop-i
invariant-loop-i l = (l.i ≤ l.k) × (length l.text ≡ 20) × (stored l.text l.at (last_digits l.base l.i l.rest) ≡ stored l.initial.text l.at (last_digits l.base l.k l.n))
