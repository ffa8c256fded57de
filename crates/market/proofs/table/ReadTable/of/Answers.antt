-- `ReadTable::of` puts in the good rows, and keeps the number.
use mathlib.Core.Path.{ap, ap₂, sym, subst, ◌∙◌}
use Prim.Native.Nat.{◌<◌}
use mathlib.Core.List.{List, foldl}
use Rattle.lists.specs.Lists.{All}
use Rattle.std.specs.declared.option.Option.{Option}
use Rattle.market.specs.declared.fault.Fault.{Fault}
use Rattle.market.specs.Quotes.{row_tests, empty_table, put_row, faulted, table_of}
use Rattle.market.specs.declared.quote.Quote.{Quote}
use Rattle.market.specs.declared.table.Table.{Table}
use Rattle.market.proofs.Rows.{good-below}
use Rattle.market.proofs.Tables.{quote-laws}
use Rattle.market.proofs.table.ReadTable.of.Goals as goal

pub placed-table-requires : goal.placed-table-requires
placed-table-requires c =
    subst (All (λ (q : Quote). q.symbol < 256)) (sym c.of-read.ensures.good)
    (good-below row_tests (λ q. q.symbol) quote-laws 0 c.args.rows.now)

pub returns : goal.returns
unfolding table_of
returns c =
    ap (λ (t : Table). faulted t c.of-read.result.fault) c.placed-table.ensures
    ∙ ap₂ (λ (l : List Quote) (n : Option Fault). faulted (foldl put_row empty_table l) n) c.of-read.ensures.good c.of-read.ensures.fault
