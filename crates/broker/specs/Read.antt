-- What a broker tells of itself, with what those who ask draw: 16; 1 for a symbol above 255; 2 for what is not finite. Definitions only.
use Rattle.std.specs.Prelude.{ℕ, Bool, true, false, not, ◌||◌, ◌≡◌, [], ◌∷◌, ltb, Float}
use Rattle.std.specs.Prelude.{Option, None, Some}
use Rattle.std.specs.Float.Ieee.Scale.{finite}
use Rattle.market.specs.Faults.{◌draws◌, drawn}
use Rattle.market.specs.declared.fault.Fault.{Fault}
use Rattle.market.specs.declared.fault.Fault.TheVariants.{UnknownSymbol, BadValue, Unsound}
use Rattle.market.specs.declared.quote.Quote.{Quote}
use Rattle.costs.specs.declared.Impact.{Impact}
use Rattle.costs.specs.Costs.{trade_impact_total, trade_costs}
use Rattle.costs.specs.Kept.{costs_of}
use Rattle.lists.specs.Lists.{given}
use Rattle.rules.specs.Values.{value_of, sale_budget, total_value, liquidation_value}
use Rattle.portfolio.specs.State.{money_of}
use Rattle.broker.specs.Lender.{broken}
use Rattle.broker.specs.declared.state.UistBroker.{UistBroker}
use Rattle.broker.specs.declared.read.BrokerState.{BrokerState}
use Rattle.broker.specs.declared.read.BrokerState.TheVariants.{Ready, Failed}
use Rattle.market.specs.declared.fault.After.{After}

-- ---- what is drawn

unfoldable pub symbol_fault : UistBroker → ℕ → Option Fault
symbol_fault b s = drawn ((broken b draws Unsound) ∷ (ltb 255 s draws UnknownSymbol) ∷ [])

unfoldable pub amounts_fault : UistBroker → Float → Float → Option Fault
amounts_fault b x y = drawn ((broken b draws Unsound) ∷ ((not (finite x) || not (finite y)) draws BadValue) ∷ [])

-- ---- the state, which is told with what is drawn too

-- what a `BrokerState` says: is the broker Failed?
abbrev pub failed_in : BrokerState → Bool
failed_in Ready = false
failed_in Failed = true

pub record ReadsState (failed : Bool) (d : Option Fault) (r : After BrokerState) : Type 0 where
  pub state : failed_in r.state ≡ failed
  pub fault : r.fault ≡ d

-- ---- what is read: it is answered where nothing is drawn

abbrev pub quote_of : UistBroker → ℕ → Option Quote
quote_of b s = (money_of b.portfolio).latest s

abbrev pub holding_of : UistBroker → ℕ → Option Float
holding_of b s = (money_of b.portfolio).held s

abbrev pub pending_of : UistBroker → ℕ → Option Float
pending_of b s = (money_of b.portfolio).pending s

abbrev pub value_here : UistBroker → ℕ → Option Float
value_here b s = value_of (money_of b.portfolio) s

-- what the costs leave of it in a sale
abbrev pub value_sold : UistBroker → ℕ → Option Float
value_sold b s = given (value_here b s) None (λ x. Some (sale_budget (money_of b.portfolio) x))

abbrev pub total_of : UistBroker → Float
total_of b = total_value (money_of b.portfolio)

abbrev pub liquidation_of : UistBroker → Float
liquidation_of b = liquidation_value (money_of b.portfolio)

abbrev pub cash_here : UistBroker → Float
cash_here b = b.portfolio.funds.cash

abbrev pub impact_of : UistBroker → Float → Float → Bool → Impact
impact_of b budget price is_buy = trade_impact_total (costs_of b.portfolio.costs) budget price is_buy

abbrev pub costs_here : UistBroker → Float → Float → Float
costs_here b quantity value = trade_costs (costs_of b.portfolio.costs) quantity value
