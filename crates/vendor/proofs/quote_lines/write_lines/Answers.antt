-- the text of the table that is read of the rows
use Rattle.vendor.proofs.Answering.{write_answers}
use Rattle.vendor.proofs.quote_lines.write_lines.Goals as goal

pub returns : goal.returns
returns c = write_answers c.args.table.now c.of.result.table c.args.out.now _ c.write.result c.of.ensures c.write.ensures
