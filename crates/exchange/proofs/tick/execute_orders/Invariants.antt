-- `execute_orders` meets its contract: after i turns what stays and what traded are those of the first i resting orders,
-- and the orders from place i on stand where they stood.
use Rattle.market.specs.Quotes.{row_at}
use Rattle.exchange.proofs.Executing.{Inv}
use Rattle.exchange.proofs.tick.execute_orders.Given as goal

abbrev pub invariant-loop-i : goal.invariant-loop-i
invariant-loop-i l = Inv (row_at l.quotes) l.resting l.initial.book l.book l.trades l.kept l.count l.i
