-- `get_holdings_ref`: the rows of the symbols that have one.
use Rattle.std.proofs.Common.{rules}
use Rattle.reads.specs.Rows.{holding_rows}
use Rattle.reads.proofs.BySymbol.{made, same_rows}
use Rattle.reads.proofs.uist.get_holdings_ref.Goals as goal

pub returns : goal.returns
unfolding holding_rows
returns c = same_rows (made _ _ _ _ (λ s r q h k. search rules) c.from_fn-rows.ensures.items) c.answer.ensures
