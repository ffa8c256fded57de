-- `store`: the rows so far stand in the first places of the list.
use Rattle.std.proofs.Common.{◌≡◌, take, length}
use Rattle.lists.specs.Lists.{over, gather, holds}
use Rattle.reads.proofs.collected.store.Given as goal

abbrev pub invariant-loop-n : goal.invariant-loop-n
invariant-loop-n g l =
    (l.list ≡ over (take (length l.yielded) (gather holds l.rows)) l.initial.list)
