-- the first rows of the array are lent, and the buffer is lent on
use Rattle.vendor.proofs.Answering.{write_on_answers}
use Rattle.vendor.proofs.on_arrays.write_on.Goals as goal

pub returns : goal.returns
returns c = write_on_answers c.args.rows.now c.args.n c.min.result c.args.out.now _ c.write_lines.result c.min.ensures c.write_lines.ensures
