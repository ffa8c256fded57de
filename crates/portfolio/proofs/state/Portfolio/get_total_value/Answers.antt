-- `get_total_value` meets its contract: each value counts as it is.
use mathlib.Core.Path.{◌∙◌}
use Rattle.std.proofs.Common.{rules}
use Rattle.portfolio.specs.State.{money_of}
use Rattle.portfolio.proofs.Symbols.{total-cash}
use Rattle.portfolio.proofs.state.Portfolio.get_total_value.Goals as goal

pub returns : goal.returns
returns c = c.cash_with.ensures (λ x. x) (λ x y p. search rules) ∙ total-cash (money_of c.args.self.now)
