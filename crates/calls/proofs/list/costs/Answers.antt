-- `list::costs` meets its contract. The loop's invariant: the costs so far, with those of the words that are left, are all. Assumes nothing.
use mathlib.Core.Path.{ap, ap₂, ◌∙◌}
use native.Mathlib.Omega.{arith}
use Rattle.std.specs.Option.{unwrap_or}
use Rattle.costs.specs.Kept.{with_cost}
use Rattle.calls.specs.Lists.{cost_or_blank}
use Rattle.calls.proofs.Lists.{none-gathered, gathered-more, all-gathered}
use Rattle.calls.proofs.list.costs.Goals as goal

pub loop-i-init : goal.loop-i-init
loop-i-init c = none-gathered _ _ _ _ c.none-list.ensures

pub loop-i-preserved : goal.loop-i-preserved
unfolding cost_or_blank
loop-i-preserved c = gathered-more _ _ _ _ _ _ c.loop-i.invariant _ c.first_at-next.ensures.word c.first_at-next.ensures.rest _ (c.with-list.ensures ∙ ap (with_cost c.loop-i.list) (c.unwrap_or.ensures ∙ ap₂ unwrap_or c.read.ensures c.blank.ensures)) (omega arith)

pub returns : goal.returns
returns c = all-gathered _ _ _ _ _ _ c.loop-i.invariant (omega arith)
