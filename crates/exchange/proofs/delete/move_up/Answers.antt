-- `move_up` meets its contract: the orders behind the place are copied over it.
use Rattle.std.proofs.Common.{rules, ◌∙◌}
use Rattle.exchange.proofs.Removing.{moved_up}
use Rattle.exchange.proofs.delete.move_up.Goals as goal

pub returns : goal.returns
returns c = c.copy_within.ensures.after ∙ moved_up c.args.book.now c.args.at c.args.until c.requires.0 (search rules)
