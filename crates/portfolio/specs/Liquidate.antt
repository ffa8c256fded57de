-- The sales of a liquidation. Definitions only.
use Rattle.std.specs.Prelude.{ℕ, Bool, length}
use Rattle.std.specs.Prelude.{Option, is_some}
use Rattle.lists.specs.Lists.{keep, holds}
use Rattle.rules.specs.Money.{Money}
use Rattle.rules.specs.Values.{symbols}
use Rattle.rules.specs.Liquidation.{Sales}
use Rattle.portfolio.specs.Lists.{listed}
use Rattle.portfolio.specs.declared.liquidate.Part.{Part}
use Rattle.portfolio.specs.declared.liquidate.Sold.{Sold}

-- what a `Part` and a `Sold` say
abbrev pub part_in : Part → Sales
part_in x = record { orders = holds x.order; rest = x.rest }

abbrev pub sold_in : Sold → Sales
sold_in x = record { orders = listed x.list; rest = x.rest }

abbrev pub succeeds : {A : Type 0} → Option A → Bool
succeeds x = is_some x

abbrev pub is_held : Money → ℕ → Bool
is_held m s = succeeds (m.held s)

-- how many symbols are held
unfoldable pub held_count : Money → ℕ
held_count m = length (keep (is_held m) symbols)
