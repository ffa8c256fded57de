-- `field` meets its contract. Assumes nothing.
use native.Mathlib.Omega.{arith}
use mathlib.Core.Path.{sym}
use lib.Seq.{length-take-le}
use Rattle.lines.proofs.Fields.{end-within}
use Rattle.lines.proofs.line.field.Goals as goal

pub overflow_add-end : goal.overflow_add-end
overflow_add-end c = omega (arith, end-within c.args.s.now _ c.next-end.ensures)

pub slice_bounds-result-end : goal.slice_bounds-result-end
slice_bounds-result-end c = sym (length-take-le _ _ (end-within c.args.s.now _ c.next-end.ensures))
