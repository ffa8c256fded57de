-- `get_quotes_ref`: the rows of the table are those of the symbols.
use Rattle.std.proofs.Common.{ap, ◌∙◌}
use Rattle.lists.specs.Lists.{gather, holds}
use Rattle.reads.specs.Rows.{quote_rows}
use Rattle.reads.proofs.BySymbol.{latest-rows, same_rows}
use Rattle.reads.proofs.uist.get_quotes_ref.Goals as goal

pub returns : goal.returns
unfolding quote_rows
returns c =
    same_rows (ap (gather holds) c.whole.ensures.same ∙ latest-rows c.args.broker.now.portfolio.latest c.whole.ensures.long) c.answer.ensures
