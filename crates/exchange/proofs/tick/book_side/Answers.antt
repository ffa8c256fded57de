-- `book_side` meets its contract: the orders that are left, booked behind those that are, make the whole.
use Rattle.std.proofs.Common.{Bool, set, sym, ap, ◌∙◌}
use mathlib.Core.Bool.{beq}
use Rattle.exchange.specs.declared.state.Booked.{Booked}
use Rattle.exchange.proofs.Booking.{same-booking, side-booked, books-one, passes-one}
use Rattle.exchange.proofs.tick.book_side.Goals as goal
use Rattle.exchange.proofs.tick.book_side.Goals.{then-is_sell-sells, else-is_sell-sells}

pub loop-w-preserved : goal.loop-w-preserved
loop-w-preserved c = let side = ap (λ (b : Bool). beq b c.args.sells) (sym c.is_sell.ensures) in
    elim c.if-is_sell-sells.branch [
      | then-is_sell-sells w ↦ books-one _ _ _ _ _ c.loop-w.invariant c.loop-w-test.true _ (side ∙ w.if-is_sell-sells.true)
          (same-booking _ _ (w.book-is ∙ ap (λ (r : Booked). set c.loop-w.book c.loop-w.at r) w.numbered.ensures) w.at-is w.ids-is)
      | else-is_sell-sells w ↦ passes-one _ _ _ _ _ c.loop-w.invariant c.loop-w-test.true _ (side ∙ w.if-is_sell-sells.false)
          (same-booking _ _ w.book-is w.at-is w.ids-is)
    ]

pub returns : goal.returns
returns c = side-booked _ _ _ _ _ c.loop-w.invariant c.loop-w-test.false
