-- the text read by value, and its rows stored in the table
use mathlib.Core.Path.{sym, ◌∙◌}
use Rattle.vendor.proofs.Answering.{read_answers}
use Rattle.vendor.proofs.quote_lines.read_lines.Goals as goal

pub returns-in-Ok : goal.returns-in-Ok
returns-in-Ok c = read_answers _ _ (sym c.in-Ok.is ∙ c.read.ensures) c.store_rows.ensures.count c.store_rows.ensures.table_is
