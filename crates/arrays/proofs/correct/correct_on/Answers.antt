-- `correct_on`: what the correction of the lent rows answers, said of the arrays
use Rattle.std.proofs.Common.{rules, ap, take}
use Rattle.arrays.proofs.Correcting.{correct_on_answers}
use Rattle.arrays.proofs.correct.correct_on.Goals as goal

pub returns : goal.returns
returns c =
    let w = correct_on_answers c.args.rows.now (take c.min.result c.args.rows.now) c.args.n c.args.room c.lend-answer.new.list c.lend-answer.result (ap (λ i. take i c.args.rows.now) c.min.ensures) in
    search rules
