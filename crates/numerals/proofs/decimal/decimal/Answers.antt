-- `decimal::decimal` meets its contract: what the digits that are left make of n is what the whole text makes. Assumes nothing.
use mathlib.Core.Path.{sym, ◌∙◌}
use native.Mathlib.Omega.{arith}
use Rattle.words.proofs.Digits.{decimal-some, decimal-none}
use Rattle.numerals.proofs.Caps.{spare, at_first, bad-digit, next-digit, all_read}
use Rattle.numerals.proofs.decimal.decimal.Goals as goal

pub returns-then-not-no_spare : goal.returns-then-not-no_spare
returns-then-not-no_spare c = spare c.args.s.now (sym c.no_spare.ensures ∙ c.if-not-no_spare.true)

pub loop-b-init : goal.loop-b-init
loop-b-init c = (omega arith, at_first c.args.s.now (sym c.no_spare.ensures ∙ c.if-not-no_spare.false))

pub returns-in_err-decimal_digit : goal.returns-in_err-decimal_digit
returns-in_err-decimal_digit c = c.from_residual.ensures ∙ bad-digit _ c.loop-b.n c.loop-b.b-index c.loop-b-test.true (decimal-none _ c.in_err-decimal_digit.ensures) ∙ c.loop-b.invariant.1

pub loop-b-preserved : goal.loop-b-preserved
loop-b-preserved c = let digit = decimal-some _ _ c.in_ok-decimal_digit.ensures in (
  omega arith,
  rw c.grown-n.ensures (next-digit _ c.loop-b.n c.loop-b.b-index c.loop-b-test.true _ digit.0 digit.1 ∙ c.loop-b.invariant.1),
)

pub returns : goal.returns
returns c = all_read _ c.loop-b.n c.loop-b.b-index c.loop-b.invariant.0 c.loop-b-test.false ∙ c.loop-b.invariant.1
