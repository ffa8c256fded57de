-- `spelled::spell` meets its contract: the digits that are still to be stored, on the array as it is, make what is returned. Assumes nothing.
use Prim.Native.Nat.{◌<◌}
use mathlib.Core.Path.{◌≡◌, sym, ◌∙◌}
use native.Mathlib.Omega.{arith}
use lib.ListN.{length-set}
use Rattle.numerals.specs.Numerals.{last_digits}
use Rattle.numerals.proofs.Stores.{stored-none, stored-digit}
use Rattle.numerals.proofs.spelled.spell.Goals as goal

pub loop-i-preserved : goal.loop-i-preserved
loop-i-preserved c = let i : 0 < c.loop-i.i = c.loop-i-test.true in (
  omega arith,
  simp length-set c.loop-i.invariant.1,
  rw c.glyph.ensures (stored-digit c.loop-i.text c.args.at c.args.base c.loop-i.i c.loop-i.rest i (omega arith) ∙ c.loop-i.invariant.2),
)

pub returns : goal.returns
unfolding last_digits
returns c = let i : c.loop-i.i ≡ 0 = omega arith in
    sym (rw i (stored-none c.loop-i.text c.args.at)) ∙ c.loop-i.invariant.2
