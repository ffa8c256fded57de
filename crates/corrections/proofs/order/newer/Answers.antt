-- `newer` meets its contract: the library compares the dates first, then the revisions.
use mathlib.Core.Path.{◌∙◌}
use borrow.Author.Rules.{rules}
use mir.Syntax.{w64}
use mir.Facts.{to_z-of_z}
use mir.Val.{SFits}
use Rattle.corrections.specs.Corrections.{newer}
use Rattle.corrections.proofs.Dates.{newer-as}
use Rattle.corrections.proofs.order.newer.Goals as goal

pub returns : goal.returns
unfolding newer
returns c = let fits-a : SFits w64 c.args.a.date = search rules in
    let fits-b : SFits w64 c.args.b.date = search rules in
    c.gt.ensures ∙ rw (to_z-of_z fits-a, to_z-of_z fits-b) (newer-as c.args.a.date c.args.b.date c.args.a.revision c.args.b.revision)
