-- `put_field` meets its contract. Assumes nothing.
use mathlib.Core.Path.{◌≡◌}
use native.Mathlib.Omega.{arith}
use borrow.Author.Rules.{rules}
use lib.ListN.{length}
use Rattle.lines.proofs.Putting.{copied-put}
use Rattle.lines.proofs.write.put_field.Goals as goal

pub returns : goal.returns
returns c = let long : length c.args.field.bytes ≡ 20 = search rules in
    copied-put c.args.out.now c.args.at c.args.field.bytes c.args.field.count c.args.end _ _ c.requires.1 (omega arith) c.copy_from_slice.ensures.after (omega arith)
