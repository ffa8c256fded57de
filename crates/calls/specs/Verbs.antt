-- The names of the verbs: the first words of the table of calls in docs/SCENARIOS.md. Definitions only.
use Rattle.std.specs.Prelude.{ℕ, cond, List, [], ◌∷◌, ◌++◌}
use Prim.Native.String.{String}
use Rattle.words.specs.Words.{same_bytes, ascii}
use Rattle.calls.specs.declared.verb.Verb.{Verb}
use Rattle.calls.specs.declared.verb.Verb.TheVariants.{Blank, Malformed, New, Lend, Deposit, Withdraw, Liquidate, Send, Insert, SendList, Delete, Check, Walk, Update, GetQuote, GetPositionQty, GetPendingOrder, GetPositionValue, GetPositionLiquidationValue, CostBasis, GetPositions, GetQuotes, GetHoldings, GetPendingOrders, GetTradeCosts, GetTotalValue, GetLiquidationValue, GetCashBalance, Turnover, GetBrokerState, ExecutedTradeCount, TradeImpactTotal, CalculateTradeCosts, Floor, Ceil, Correct, State, Quiet, Full, Clock}

-- names, each with its verb
abbrev pub Names : Type 0
Names = List (String × Verb)

-- the verb of this name, or the rest where the word is another
unfoldable pub named_or : List ℕ → List ℕ → Verb → Verb → Verb
named_or w name v rest = cond (same_bytes w name) v rest

-- the verb of the first row whose name the word is; a word that no row names is malformed
unfoldable pub verb_in : Names → List ℕ → Verb
verb_in [] w = Malformed
verb_in (row ∷ rows) w = named_or w (ascii row.0) row.1 (verb_in rows w)

-- the verbs that act
abbrev pub movers : Names
movers =
    ("new", New) ∷ ("lend", Lend) ∷ ("deposit", Deposit) ∷ ("withdraw", Withdraw) ∷ ("liquidate", Liquidate)
    ∷ ("send", Send) ∷ ("insert", Insert) ∷ ("send_list", SendList) ∷ ("delete", Delete)
    ∷ ("check", Check) ∷ ("walk", Walk) ∷ ("update", Update) ∷ []

-- those that read a symbol
abbrev pub symbol_readers : Names
symbol_readers =
    ("get_quote", GetQuote) ∷ ("get_position_qty", GetPositionQty) ∷ ("get_pending_order", GetPendingOrder)
    ∷ ("get_position_value", GetPositionValue) ∷ ("get_position_liquidation_value", GetPositionLiquidationValue)
    ∷ ("cost_basis", CostBasis) ∷ []

-- those that read into a lent list
abbrev pub room_readers : Names
room_readers =
    ("get_positions", GetPositions) ∷ ("get_quotes", GetQuotes) ∷ ("get_holdings", GetHoldings)
    ∷ ("get_pending_orders", GetPendingOrders) ∷ ("get_trade_costs", GetTradeCosts) ∷ []

-- the others that read
abbrev pub readers : Names
readers =
    ("get_total_value", GetTotalValue) ∷ ("get_liquidation_value", GetLiquidationValue)
    ∷ ("get_cash_balance", GetCashBalance) ∷ ("turnover", Turnover) ∷ ("get_broker_state", GetBrokerState)
    ∷ ("executed_trade_count", ExecutedTradeCount) ∷ ("trade_impact_total", TradeImpactTotal)
    ∷ ("calculate_trade_costs", CalculateTradeCosts) ∷ []

-- those that need no broker
abbrev pub others : Names
others =
    ("floor", Floor) ∷ ("ceil", Ceil) ∷ ("correct", Correct) ∷ ("state", State) ∷ ("quiet", Quiet) ∷ ("full", Full)
    ∷ ("clock", Clock) ∷ []

-- every verb that has a name
abbrev pub verbs : Names
verbs = movers ++ symbol_readers ++ room_readers ++ readers ++ others

-- the verb of a line's first word; without a word the line is blank
unfoldable pub verb_of : List ℕ → Verb
verb_of [] = Blank
verb_of (b ∷ w) = verb_in verbs (b ∷ w)
