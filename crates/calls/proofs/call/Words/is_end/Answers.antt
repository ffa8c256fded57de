-- `call::Words::is_end` meets its contract: no word is empty. Assumes nothing.
use mathlib.Core.Path.{◌∙◌}
use Rattle.calls.proofs.Calls.{end_of}
use Rattle.calls.proofs.call.Words.is_end.Goals as goal

pub returns : goal.returns
returns c = c.is_empty.ensures ∙ end_of _ _ c.first_at.ensures.word
