-- `list::costs` meets its contract. The loop's invariant: the costs so far, with those of the words that are left, are all. Assumes nothing.
use Rattle.calls.proofs.Lists.{Gathered}
use Rattle.calls.proofs.list.costs.Given as goal

abbrev pub invariant-loop-i : goal.invariant-loop-i
invariant-loop-i l = Gathered l.line l.fn.span.at l.fn.span.count l.list l.place l._i
