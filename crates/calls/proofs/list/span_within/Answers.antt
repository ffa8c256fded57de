-- `list::span_within` meets its contract. The loop's invariant: the words before `i` are rows of the list, and what is left makes it whole.
-- Each turn takes one of the words that are left, so the loop ends. Assumes nothing.
use native.Mathlib.Omega.{arith}
use mathlib.Core.Path.{sym, ap, ◌∙◌}
use borrow.Author.Tests.{not-true, not-false}
use Rattle.std.specs.Prelude.{is_some}
use Rattle.calls.specs.Lists.{spanned, is_row}
use Rattle.calls.proofs.Lists.{none_passed, tested, ends-well, ends-ill, many, unfit, passed-more}
use Rattle.calls.proofs.list.span_within.Goals as goal

pub loop-w-init : goal.loop-w-init
loop-w-init g c = none_passed _ _ _ _ _

pub returns-then-slash-before : goal.returns-then-slash-before
unfolding spanned
returns-then-slash-before g c = ends-ill _ _ _ _ _ _ _ c.loop-w.invariant _ c.first_at-next.ensures.word c.first_at-next.ensures.rest _ c.is_slash-slash.ensures (tested _ _ c.is_empty.ensures c.if-slash-is_empty.true) (not-true _ c.if-slash-before.true)

pub returns-then-slash-is_empty : goal.returns-then-slash-is_empty
returns-then-slash-is_empty g c = ends-well _ _ _ _ _ _ _ c.loop-w.invariant _ c.first_at-next.ensures.word c.first_at-next.ensures.rest _ c.is_slash-slash.ensures (tested _ _ c.is_empty.ensures c.if-slash-is_empty.true) (not-false _ c.if-slash-before.false)

pub returns-then-count-most : goal.returns-then-count-most
unfolding spanned
returns-then-count-most g c = many _ _ _ _ _ _ _ c.loop-w.invariant _ c.first_at-next.ensures.word c.first_at-next.ensures.rest _ c.is_slash-slash.ensures (tested _ _ c.is_empty.ensures c.if-slash-is_empty.false) (omega (arith, c.if-count-most.true))

pub loop-w-preserved : goal.loop-w-preserved
unfolding is_row
loop-w-preserved g c = passed-more _ _ _ _ _ _ _ c.loop-w.invariant _ c.first_at-next.ensures.word c.first_at-next.ensures.rest _ c.is_slash-slash.ensures (tested _ _ c.is_empty.ensures c.if-slash-is_empty.false) (omega (arith, c.if-count-most.false)) (ap is_some (sym c.read.ensures ∙ c.in_ok-read.was))

pub returns-in_err-read : goal.returns-in_err-read
unfolding spanned is_row
returns-in_err-read g c = ap (spanned c.args.line.now) c.from_residual.ensures ∙ unfit _ _ _ _ _ _ _ c.loop-w.invariant _ c.first_at-next.ensures.word c.first_at-next.ensures.rest _ c.is_slash-slash.ensures (tested _ _ c.is_empty.ensures c.if-slash-is_empty.false) (ap is_some (sym c.read.ensures ∙ c.in_err-read.was))
