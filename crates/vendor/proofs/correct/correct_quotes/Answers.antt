-- what `corrected` answers, and its rows stored in the table
use mathlib.Core.Path.{sym, ◌∙◌}
use Rattle.vendor.proofs.Correcting.{correct_answers}
use Rattle.vendor.proofs.correct.correct_quotes.Goals as goal

pub returns : goal.returns
returns c = correct_answers _ _ (sym c.in_ok-x.was ∙ c.corrected.ensures) c.store_rows.ensures.count c.store_rows.ensures.table_is
