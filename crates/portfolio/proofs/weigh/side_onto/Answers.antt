-- `side_onto` meets its contract: the orders of the side so far stand behind the others.
use mathlib.Core.Path.{ap, sym, ◌∙◌}
use mathlib.Core.Bool.{Bool, beq}
use Rattle.portfolio.proofs.Listing.{onto-none, side-puts, side-passes}
use Rattle.portfolio.proofs.weigh.side_onto.Goals as goal
use Rattle.portfolio.proofs.weigh.side_onto.Goals.{then-is_sell-sells, else-is_sell-sells}

pub loop-o-init : goal.loop-o-init
loop-o-init c = onto-none _ (c.well_formed.1.1.0.1.1.0.1.0.1) c.requires

pub loop-o-preserved : goal.loop-o-preserved
loop-o-preserved c = elim c.if-is_sell-sells.branch [
  | then-is_sell-sells w ↦ side-puts c.args.onto c.args.sells c.orders-o-items.result.now _ c.loop-o.o-index (c.well_formed.1.1.0.1.1.0.1.0.1) c.loop-o.invariant c.loop-o-test.true
      (ap (λ (x : Bool). beq x c.args.sells) (sym c.is_sell.ensures) ∙ w.if-is_sell-sells.true) _ (w.out-is ∙ w.push.ensures)
  | else-is_sell-sells w ↦ w.out-is ∙ side-passes c.args.onto c.args.sells c.orders-o-items.result.now _ c.loop-o.o-index c.loop-o.invariant c.loop-o-test.true
      (ap (λ (x : Bool). beq x c.args.sells) (sym c.is_sell.ensures) ∙ w.if-is_sell-sells.false)
]
