-- `alike` meets its contract: the library compares the symbols, the dates and the revisions.
use mathlib.Core.Bool.{Bool, true, false, ◌&&◌}
use mathlib.Core.Path.{◌≡◌, refl, ◌∙◌}
use borrow.Author.Rules.{rules}
use mir.Syntax.{w64}
use mir.Facts.{to_z-of_z}
use mir.Val.{SFits}
use lib.Dec.{eqb}
use Rattle.corrections.specs.Corrections.{alike}
use Rattle.corrections.proofs.Dates.{same-as}
use Rattle.corrections.proofs.order.alike.Goals as goal

and_last : (a b c : Bool) → ((a && b) && c) ≡ (a && b && c)
and_last true b c = refl
and_last false b c = refl

pub returns : goal.returns
unfolding alike
returns c = let fits-a : SFits w64 c.args.a.date = search rules in
    let fits-b : SFits w64 c.args.b.date = search rules in
    c.eq.ensures
    ∙ rw (to_z-of_z fits-a, to_z-of_z fits-b, same-as c.args.a.date c.args.b.date) (and_last (eqb c.args.a.symbol c.args.b.symbol) _ _)
