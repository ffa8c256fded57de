-- `Weights::of` keeps the first 257 rows, and says how many are good, and the number.
use mathlib.Core.Path.{◌≡◌, ap, ap₂, ◌∙◌}
use Prim.Native.Nat.{ℕ, min}
use native.Mathlib.Omega.{arith}
use mathlib.Core.List.{List}
use lib.ListN.{take, replicate}
use Rattle.lists.specs.Lists.{over}
use Rattle.std.specs.declared.option.Option.{Option}
use Rattle.std.proofs.lemmas.List.{take_min}
use Rattle.market.specs.declared.fault.Fault.{Fault}
use Rattle.market.specs.Weights.{blank_weight, weights_of}
use Rattle.market.specs.declared.weight.Weight.{Weight}
use Rattle.market.specs.declared.weight.Weights.{Weights}
use Rattle.market.proofs.weight.Weights.of.Goals as goal

abbrev weights : List Weight → ℕ → Option Fault → Weights
weights l n fault = record { rows = l; count = n; fault = fault }

turn : (k n : ℕ) → k ≡ min n 257 → k ≡ min 257 n
turn k n e = omega (arith, e)

pub returns : goal.returns
unfolding weights_of
returns c =
    let cut = ap (λ n. take n c.args.rows.now) (turn _ _ c.min.ensures) ∙ take_min 257 c.args.rows.now in
    let here = c.kept.ensures ∙ ap (λ (l : List Weight). over l (replicate 257 blank_weight)) cut in
    ap (λ (l : List Weight). weights l c.of-read.result.count c.of-read.result.fault) here
    ∙ ap₂ (weights (over (take 257 c.args.rows.now) (replicate 257 blank_weight))) c.of-read.ensures.count c.of-read.ensures.fault
