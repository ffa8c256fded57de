-- `list::span_within` meets its contract. The loop's invariant: the words before `i` are rows of the list, and what is left makes it whole.
-- Each turn takes one of the words that are left, so the loop ends. Assumes nothing.
use lib.ListN.{length, drop}
use Rattle.words.specs.Words.{words_of}
use Rattle.calls.proofs.Lists.{Passed}
use Rattle.calls.proofs.list.span_within.Given as goal

abbrev pub invariant-loop-w : goal.invariant-loop-w
invariant-loop-w g l = Passed l.line l.at g.R.WordRow.row_of l.most l.before l.i l.count

abbrev pub decreases-loop-w : goal.decreases-loop-w
decreases-loop-w g l = length (words_of (drop l.i l.line))
