-- `cash_with` meets its contract: going on over the symbols that are left gives the whole sum.
use mathlib.Core.Path.{◌≡◌}
use lib.Ieee.{Float}
use Rattle.portfolio.specs.State.{money_of}
use Rattle.portfolio.proofs.Symbols.{CashAt}
use Rattle.portfolio.proofs.state.Portfolio.cash_with.Given as goal

abbrev pub invariant-loop-symbol : goal.invariant-loop-symbol
invariant-loop-symbol g l = (f : Float → Float) → ((x y : Float) → goal.F-post g l.counted x y → y ≡ f x) → CashAt (money_of l.self) f l.sum l.symbol
