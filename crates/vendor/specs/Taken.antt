-- Checks take a corrected table as before: document 02, request 5. Definitions only.
use Rattle.std.specs.Prelude.{ℕ, List, [], ◌≡◌}
use Rattle.std.specs.Result.{result_err}
use Rattle.market.specs.declared.order.OrderEvent.{OrderEvent}
use Rattle.market.specs.declared.quote.Quote.{Quote}
use Rattle.market.specs.declared.trade.Trade.{Trade}
use Rattle.market.specs.declared.weight.Weight.{Weight}
use Rattle.costs.specs.declared.TradeCosts.{TradeCosts}
use Rattle.broker.specs.Lent.{build_for, check_for, update_for}
use Rattle.broker.specs.declared.state.UistBroker.{UistBroker}

-- no check, update or builder refuses the table t for its rows: each draws before it acts what it draws with the empty table in the place of t
pub record TakesTable (t : List Quote) : Type 0 where
  pub tradable : (b : UistBroker) (f : List Quote) (log : List Trade) → check_for b t f log ≡ check_for b [] f log
  pub fetched : (b : UistBroker) (f : List Quote) (log : List Trade) → check_for b f t log ≡ check_for b f [] log
  pub update-tradable : (b : UistBroker) (f : List Quote) (w : List Weight) (e : List OrderEvent) (log : List Trade) → update_for b t f w e log ≡ update_for b [] f w e log
  pub update-fetched : (b : UistBroker) (f : List Quote) (w : List Weight) (e : List OrderEvent) (log : List Trade) → update_for b f t w e log ≡ update_for b f [] w e log
  pub first : (costs : TradeCosts) (lot : ℕ) (log : List Trade) → result_err (build_for costs lot t log) ≡ result_err (build_for costs lot [] log)
