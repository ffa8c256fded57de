-- `cash_with` meets its contract: going on over the symbols that are left gives the whole sum.
use mathlib.Core.Path.{sym, ◌∙◌}
use Rattle.portfolio.specs.State.{money_of}
use Rattle.portfolio.proofs.Symbols.{cash-starts, cash-ends, cash-adds, cash-passes}
use Rattle.portfolio.proofs.state.Portfolio.cash_with.Goals as goal
use Rattle.portfolio.proofs.state.Portfolio.cash_with.Goals.{in-Some, in_default}

pub loop-symbol-init : goal.loop-symbol-init
loop-symbol-init g c = λ f h. cash-starts (money_of c.args.self.now) f

pub loop-symbol-preserved : goal.loop-symbol-preserved
loop-symbol-preserved g c = λ f h. elim c.match-value_of.branch [
  | in-Some w ↦ cash-adds (money_of c.args.self.now) f c.loop-symbol.sum c.loop-symbol.symbol (c.loop-symbol.invariant f h) c.loop-symbol-test.true _ w.in-Some.x w.counted-sum.result (sym w.in-Some.is ∙ c.value_of.ensures) (h w.in-Some.x w.counted-sum.result w.counted-sum.ensures) w.sum-is
  | in_default w ↦ cash-passes (money_of c.args.self.now) f c.loop-symbol.sum c.loop-symbol.symbol (c.loop-symbol.invariant f h) c.loop-symbol-test.true _ (sym w.in_default.is ∙ c.value_of.ensures) w.sum-is
]

pub returns : goal.returns
returns g c = λ f h. cash-ends (money_of c.args.self.now) f c.loop-symbol.sum c.loop-symbol.symbol (c.loop-symbol.invariant f h) c.loop-symbol.auto.symbol-end c.loop-symbol-test.false
