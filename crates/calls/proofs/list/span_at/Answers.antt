-- `list::span_at` meets its contract: the limit is that of the rows. Assumes nothing.
use mathlib.Core.Path.{ap, ◌∙◌}
use lib.ListN.{drop}
use Rattle.words.specs.Words.{words_of}
use Rattle.calls.specs.Lists.{list_of}
use Rattle.calls.proofs.list.span_at.Goals as goal

pub returns : goal.returns
returns g c = c.span_within.ensures ∙ ap (λ n. list_of g.R.WordRow.row_of n c.args.before (words_of (drop c.args.at c.args.line.now))) c.MOST.ensures
