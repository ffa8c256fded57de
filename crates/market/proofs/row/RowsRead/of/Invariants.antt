-- `RowsRead::of`: the rows so far are good, and what follows gives what the whole gives.
use Rattle.market.specs.Reading.{tests_by}
use Rattle.market.proofs.Rows.{RowsAt}
use Rattle.market.proofs.row.RowsRead.of.Given as goal

abbrev pub invariant-loop-i : goal.invariant-loop-i
invariant-loop-i g l = RowsAt (tests_by g.R.Row.symbol_of g.R.Row.sound) g.R.Row.symbol_of l.rows l.least l.i
