-- `get_pending_orders_ref`: the rows of the symbols that have one.
use Rattle.std.proofs.Common.{rules}
use Rattle.reads.specs.Rows.{pending_rows}
use Rattle.reads.proofs.BySymbol.{made, same_rows}
use Rattle.reads.proofs.uist.get_pending_orders_ref.Goals as goal

pub returns : goal.returns
unfolding pending_rows
returns c = same_rows (made _ _ _ _ (λ s r q h k. search rules) c.from_fn-rows.ensures.items) c.answer.ensures
