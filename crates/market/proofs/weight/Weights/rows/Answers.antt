-- `Weights::rows` lends the first rows, as many as count: at most 256 of the 257.
use Rattle.market.proofs.Weights.{counted-rows}
use Rattle.market.proofs.weight.Weights.rows.Goals as goal

pub returns-clause-rows : goal.returns-clause-rows
returns-clause-rows c = counted-rows c.args.self.now.count c.min-count.result c.args.self.now.rows c.min-count.ensures
