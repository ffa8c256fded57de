-- `number::float` meets its contract: what the digits that are left make of n is what the whole word makes. Assumes nothing.
use mathlib.Core.Path.{ap, ◌∙◌}
use native.Mathlib.Omega.{arith}
use Rattle.std.specs.declared.option.Option.TheVariants.{Some}
use Rattle.words.proofs.Digits.{not-sixteen, sixteen, digit-some, next-bits, bad-bits, shifts, small, all-bits}
use Rattle.words.proofs.number.float.Goals as goal

pub returns-then-s-ne16 : goal.returns-then-s-ne16
returns-then-s-ne16 c = not-sixteen c.args.s.now c.if-s-ne16.true

pub loop-b-init : goal.loop-b-init
loop-b-init c = (omega arith, sixteen c.args.s.now c.if-s-ne16.false)

pub overflow_mul-n : goal.overflow_mul-n
overflow_mul-n c = omega (arith, small c.loop-b.n c.loop-b.b-index c.loop-b.invariant.0 (omega arith))

pub returns-in_err-n : goal.returns-in_err-n
returns-in_err-n c = c.from_residual.ensures ∙ bad-bits c.args.s.now c.loop-b.n c.loop-b.b-index c.loop-b-test.true c.in_err-n.ensures ∙ c.loop-b.invariant.1

pub overflow_add-n : goal.overflow_add-n
overflow_add-n c = omega (arith, small c.loop-b.n c.loop-b.b-index c.loop-b.invariant.0 (omega arith), (digit-some _ _ c.in_ok-n.ensures).1)

pub loop-b-preserved : goal.loop-b-preserved
loop-b-preserved c = (
  shifts c.loop-b.n c.loop-b.b-index c.in_ok-n.field-0 c.loop-b.invariant.0 (digit-some _ _ c.in_ok-n.ensures).1,
  next-bits c.args.s.now c.loop-b.n c.loop-b.b-index c.loop-b-test.true c.in_ok-n.field-0 c.in_ok-n.ensures ∙ c.loop-b.invariant.1,
)

pub returns : goal.returns
returns c = ap Some c.f64_from_bits_with_nan.ensures
    ∙ all-bits c.args.s.now c.loop-b.n c.loop-b.b-index c.loop-b-test.false
    ∙ c.loop-b.invariant.1
