-- `execute_orders` meets its contract: after i turns what stays and what traded are those of the first i resting orders,
-- and the orders from place i on stand where they stood.
use Rattle.std.proofs.Common.{get_or, set, sym, ap, ◌∙◌}
use Rattle.market.specs.Quotes.{row_at}
use Rattle.market.specs.Trades.{trade_on}
use Rattle.exchange.specs.Tick.{trade_at}
use Rattle.exchange.specs.declared.state.Booked.{Booked}
use Rattle.exchange.proofs.Executing.{no_booked, unmoved, trades-one, keeps-one, executed}
use Rattle.exchange.proofs.tick.execute_orders.Goals as goal
use Rattle.exchange.proofs.tick.execute_orders.Goals.{in-Some, in-None}

pub loop-i-preserved : goal.loop-i-preserved
loop-i-preserved c = let read = unmoved _ _ _ _ _ _ _ _ c.loop-i.invariant in
    let on = ap (λ (b : Booked). trade_at (row_at c.args.quotes.now) b.order) (sym read)
    ∙ ap (λ r. trade_on r (get_or c.loop-i.book c.loop-i.i no_booked).order) (sym c.row.ensures) ∙ sym c.execute.ensures in
    elim c.match-execute.branch [ in-Some w ↦ trades-one _ _ _ _ _ _ _ _ c.loop-i.invariant c.loop-i-test.true _ _ _ _ _ (on ∙ w.in-Some.is) w.book-is w.trades-is w.kept-is w.count-is | in-None w ↦ keeps-one _ _ _ _ _ _ _ _ c.loop-i.invariant c.loop-i-test.true _ _ _ _ (on ∙ w.in-None.is) (w.book-is ∙ ap (set c.loop-i.book c.loop-i.kept) read) w.trades-is w.kept-is w.count-is ]

pub returns : goal.returns
returns c = executed _ _ _ _ _ _ _ _ c.loop-i.invariant c.loop-i-test.false
