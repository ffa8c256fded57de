-- The rows of a broker's lists, over what the rules read of it: those by symbol ascend. Definitions only.
use Rattle.std.specs.Prelude.{ℕ, List, [], ◌∷◌, Float}
use Rattle.std.specs.Prelude.{Option}
use Rattle.lists.specs.Lists.{gather, given}
use Rattle.market.specs.declared.quote.Quote.{Quote}
use Rattle.costs.specs.declared.BrokerCost.{BrokerCost}
use Rattle.rules.specs.Money.{Money}
use Rattle.rules.specs.Values.{symbols}
use Rattle.reads.specs.declared.collected.Holding.{Holding}

-- a row for a symbol of which the map has an entry, none for another
abbrev pub rows_at : {A B : Type 0} → (ℕ → A → B) → (ℕ → Option A) → ℕ → List B
rows_at row m s = given (m s) [] (λ a. row s a ∷ [])

abbrev pub rows_of : {A B : Type 0} → (ℕ → A → B) → (ℕ → Option A) → List B
rows_of row m = gather (rows_at row m) symbols

-- `get_positions`: the symbols that are held
unfoldable pub position_rows : Money → List ℕ
position_rows m = rows_of (λ s x. s) m.held

abbrev pub holding_of : ℕ → Float → Holding
holding_of s x = record { symbol = s; quantity = x }

-- `get_holdings`: these with how much is held; `get_pending_orders`: what is pending, a sum of zero too
unfoldable pub holding_rows : Money → List Holding
holding_rows m = rows_of holding_of m.held

unfoldable pub pending_rows : Money → List Holding
pending_rows m = rows_of holding_of m.pending

-- `get_quotes`: the latest quotes
unfoldable pub quote_rows : Money → List Quote
quote_rows m = rows_of (λ s q. q) m.latest

-- `get_trade_costs`: the costs, in their order
unfoldable pub cost_rows : Money → List BrokerCost
cost_rows m = m.costs
