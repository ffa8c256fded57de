-- `count`: each row that is there is one of those gathered.
use Rattle.std.proofs.Common.{◌≡◌, ◌∙◌, arith}
use Rattle.std.proofs.lemmas.Grind.{common_steps}
use Rattle.std.specs.Prelude.{count_by, is_some}
use Rattle.reads.proofs.Present.{count-present}
use Rattle.reads.proofs.collected.count.Goals as goal

pub returns : goal.returns
returns g c =
    let passed : c.count.result ≡ count_by is_some c.args.rows.now = grind (arith, common_steps) in
    passed ∙ count-present c.args.rows.now
