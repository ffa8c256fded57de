-- `call::Words::of_verb` meets its contract: a blank line and a malformed one are their verbs alone. Assumes nothing.
use mathlib.Core.Path.{refl, ◌∙◌}
use mathlib.Core.Logic.{inl, inr}
use Rattle.calls.specs.Calls.{said_as}
use Rattle.calls.proofs.Calls.{plain-heard}
use Rattle.calls.proofs.call.Words.of_verb.Goals as goal

pub returns-in-Blank : goal.returns-in-Blank
unfolding said_as
returns-in-Blank c = plain-heard _ _ c.plain.ensures ∙ elim c.in-Blank.is [ inl e ↦ rw e refl | inr e ↦ rw e refl ]
