-- `send_event` meets its contract where an order's own tests draw. Assumes nothing.
use mathlib.Core.Path.{sym, ◌∙◌}
use Rattle.sender.specs.Sender.{event_at}
use Rattle.sender.proofs.Events.{first-draws}
use Rattle.sender.proofs.send_event.Goals as goal

pub returns-in-Some : goal.returns-in-Some
unfolding event_at
returns-in-Some c = c.event.ensures ∙ first-draws _ _ _ _ (sym c.in-Some.is ∙ c.fault.ensures)
