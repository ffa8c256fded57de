-- the first i orders are sent, and their events told
use Rattle.lent.proofs.Sends.{Sends}
use Rattle.lent.proofs.uist.send_orders.Given as goal

abbrev pub invariant-loop-i : goal.invariant-loop-i
invariant-loop-i l = Sends l.initial.broker l.orders l.initial.events l.broker l.events l.i
