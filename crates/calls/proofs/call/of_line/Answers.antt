-- `call::of_line` meets its contract. Assumes nothing.
use mathlib.Core.Path.{◌∙◌}
use Rattle.calls.proofs.Calls.{read_or, said-is}
use Rattle.calls.proofs.call.of_line.Goals as goal

pub returns : goal.returns
returns c = read_or c.args.line.now _ c.unwrap_or.ensures c.plain.ensures
    ∙ c.of_verb.ensures
    ∙ said-is c.args.line.now _ c.first_at-next.ensures.word c.first_at-next.ensures.rest _ c.named.ensures
