-- `get_liquidation_value` meets its contract: each value counts as what a sale of it leaves.
use mathlib.Core.Path.{◌∙◌}
use Rattle.rules.specs.Values.{sale_budget}
use Rattle.std.proofs.Common.{rules}
use Rattle.portfolio.specs.State.{money_of}
use Rattle.portfolio.proofs.Symbols.{liquidation-cash}
use Rattle.portfolio.proofs.state.Portfolio.get_liquidation_value.Goals as goal

pub returns : goal.returns
returns c = c.cash_with.ensures (sale_budget (money_of c.args.self.now)) (λ x y p. search rules) ∙ liquidation-cash (money_of c.args.self.now)
