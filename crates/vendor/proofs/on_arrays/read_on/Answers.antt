-- the first rows of a blank array are lent, and the answer stands beside the array that comes back
use Rattle.std.proofs.Common.{ap, length}
use lib.ListN.{replicate}
use Rattle.vendor.proofs.Answering.{read_on_answers}
use Rattle.vendor.proofs.on_arrays.read_on.Goals as goal

pub returns : goal.returns
returns c =
    let blank = ap (replicate 257) c.blank-blank.ensures in
    read_on_answers c.args.input.now c.args.room c.min-n.ensures blank (ap length blank) c.read_lines-answer.ensures
