-- `kept` copies a row more.
use mathlib.Core.Path.{ap, refl, ◌∙◌}
use Prim.Native.Nat.{◌≤◌}
use native.Mathlib.Omega.{arith}
use mathlib.Core.List.{List}
use lib.ListN.{length, set, get_or, replicate, length-replicate}
use Rattle.lists.proofs.Over.{over-next}
use Rattle.market.specs.Weights.{blank_weight}
use Rattle.market.specs.declared.weight.Weight.{Weight}
use Rattle.market.proofs.Weights.{no_weight}
use Rattle.market.proofs.weight.kept.Goals as goal

pub loop-i-preserved : goal.loop-i-preserved
loop-i-preserved c =
    let room : length c.args.rows.now ≤ length (replicate 257 blank_weight) = omega (arith, c.requires, length-replicate 257 blank_weight) in
    ap (λ (k : List Weight). set k c.loop-i.i (get_or c.args.rows.now c.loop-i.i no_weight)) c.loop-i.invariant
    ∙ over-next c.args.rows.now (replicate 257 blank_weight) c.loop-i.i _ no_weight c.loop-i-test.true room refl
