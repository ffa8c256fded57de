-- `lines_read` meets its contract: the rows so far and the lines that are left give what all lines give. Assumes nothing.
use lib.ListN.{length, drop}
use Rattle.lines.specs.Reading.{lines_of}
use Rattle.lines.proofs.Loading.{ReadTo}
use Rattle.lines.proofs.read.lines_read.Given as goal

abbrev pub invariant-loop-part : goal.invariant-loop-part
invariant-loop-part l = ReadTo l.input l.rows l.n l.least (drop (length l.yielded) (lines_of l.input))
