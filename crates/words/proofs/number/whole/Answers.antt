-- `number::whole` meets its contract: what the digits that are left make of n is what the whole word makes. Assumes nothing.
use mathlib.Core.Path.{◌∙◌}
use native.Mathlib.Omega.{arith}
use Rattle.words.proofs.Digits.{nothing, too_long, at_first, next-below, next-digit, bad-digit, all_read}
use Rattle.words.proofs.number.whole.Goals as goal
use Rattle.words.proofs.number.whole.Goals.{then-is_empty-via-then-is_empty, then-is_empty-via-else-is_empty+then-s-gt20}

pub returns-then-is_empty : goal.returns-then-is_empty
returns-then-is_empty c = elim c.then-is_empty.branch [
  | then-is_empty-via-then-is_empty w ↦ nothing _ w.if-is_empty.ensures
  | then-is_empty-via-else-is_empty+then-s-gt20 w ↦ too_long _ w.if-s-gt20.true
]

pub loop-b-init : goal.loop-b-init
loop-b-init c = (omega arith, at_first _ c.if-is_empty.ensures c.if-s-gt20.false)

pub returns-in_err-n : goal.returns-in_err-n
returns-in_err-n c = c.from_residual.ensures ∙ bad-digit c.args.s.now c.loop-b.n c.loop-b.b-index c.loop-b-test.true c.in_err-n.ensures ∙ c.loop-b.invariant.1

pub loop-b-preserved : goal.loop-b-preserved
loop-b-preserved c = (
  next-below c.args.s.now c.loop-b.n c.loop-b.b-index c.loop-b-test.true c.in_ok-n.n c.in_ok-n.ensures,
  next-digit c.args.s.now c.loop-b.n c.loop-b.b-index c.loop-b-test.true c.in_ok-n.n c.in_ok-n.ensures ∙ c.loop-b.invariant.1,
)

pub returns : goal.returns
returns c = all_read _ c.loop-b.n c.loop-b.b-index c.loop-b.invariant.0 c.loop-b-test.false ∙ c.loop-b.invariant.1
