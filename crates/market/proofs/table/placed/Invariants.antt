-- `placed`: the table so far is that of the rows so far.
use mathlib.Core.Path.{◌≡◌}
use mathlib.Core.List.{foldl}
use lib.ListN.{take}
use Rattle.market.specs.Quotes.{empty_table, put_row}
use Rattle.market.proofs.table.placed.Given as goal

abbrev pub invariant-loop-q : goal.invariant-loop-q
invariant-loop-q l = l.table ≡ foldl put_row empty_table (take l.q-index l.rows)
