-- `rows_fault` meets its contract: what `find_map` finds is what the first row that draws a number draws.
use Rattle.std.proofs.Common.{rules}
use Rattle.corrections.proofs.Finding.{found-first}
use Rattle.corrections.proofs.faults.rows_fault.Goals as goal

pub returns : goal.returns
returns c =
    let r = c.find_map.ensures.runs in
    found-first _ _ (search rules) c.args.rows.now c.find_map.result r.0 (search rules) r.2
