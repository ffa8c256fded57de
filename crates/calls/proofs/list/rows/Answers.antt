-- `list::rows` meets its contract. The loop's invariant: the first `i` words are stored as rows, and `place` is behind them. Assumes nothing.
use mathlib.Core.Path.{ap, ap₂, ◌∙◌}
use native.Mathlib.Omega.{arith}
use lib.ListN.{replicate}
use Rattle.std.specs.Option.{unwrap_or}
use Rattle.calls.proofs.Lists.{none_filled, filled_more}
use Rattle.calls.proofs.list.rows.Goals as goal

pub loop-i-init : goal.loop-i-init
loop-i-init g c = none_filled _ _ _ _ _ _ _ (ap (replicate g.row.N) c.blank-list.ensures)

pub loop-i-preserved : goal.loop-i-preserved
loop-i-preserved g c = filled_more _ _ _ _ _ _ _ _ _ c.loop-i.invariant _ c.first_at-next.ensures.word c.first_at-next.ensures.rest _ (c.unwrap_or.ensures ∙ ap₂ unwrap_or c.read.ensures c.blank.ensures) (omega arith)
