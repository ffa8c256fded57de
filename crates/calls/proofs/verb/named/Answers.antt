-- `verb::named` meets its contract. Assumes nothing.
use mathlib.Core.Path.{◌∙◌}
use Rattle.calls.proofs.Verbs.{no_name, some-name}
use Rattle.calls.proofs.verb.named.Goals as goal

pub returns-then-w-eq0 : goal.returns-then-w-eq0
returns-then-w-eq0 c = no_name _ c.if-w-eq0.true

pub returns : goal.returns
returns c = c.mover.ensures ∙ some-name _ c.if-w-eq0.false
