-- `put_rows` meets its contract: the lines of the symbols so far stand in the buffer. Assumes nothing.
use Rattle.lines.proofs.Texts.{PutTo}
use Rattle.lines.proofs.write.put_rows.Given as goal

abbrev pub invariant-loop-symbol : goal.invariant-loop-symbol
invariant-loop-symbol l = PutTo l.fn.t l.initial.out l.out l.at l.symbol
