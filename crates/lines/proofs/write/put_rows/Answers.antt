-- `put_rows` meets its contract: the lines of the symbols so far stand in the buffer. Assumes nothing.
use Rattle.lines.proofs.Texts.{put_next, put_all}
use Rattle.lines.proofs.write.put_rows.Goals as goal

pub loop-symbol-preserved : goal.loop-symbol-preserved
loop-symbol-preserved c = put_next c.loop-symbol.invariant c.requires _ _ c.loop-symbol-test.true c.put_row-at.ensures.puts c.put_row-at.ensures.upper_bound

pub returns : goal.returns
returns c = put_all c.loop-symbol.invariant c.requires c.loop-symbol-test.false
