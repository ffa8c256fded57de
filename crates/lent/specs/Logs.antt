-- Cost basis and turnover of a lent log: document 01, sections 4 and 7, with what those who ask draw. Definitions only.
use Rattle.std.specs.Prelude.{ℕ, ltb, take, Option}
use mathlib.Core.List.{List, [], ◌∷◌, foldl}
use Rattle.market.specs.Faults.{◌draws◌, drawn}
use Rattle.market.specs.declared.fault.Fault.{Fault}
use Rattle.market.specs.declared.fault.Fault.TheVariants.{UnknownSymbol}
use Rattle.market.specs.declared.trade.Trade.{Trade}
use Rattle.rules.specs.Basis as Rules
use Rattle.rules.specs.Basis.{basis_step}
use Rattle.portfolio.specs.Basis.{no_basis}
use Rattle.broker.specs.Lender.{log_test}
use Rattle.broker.specs.declared.state.UistBroker.{UistBroker}

-- the log's trades: from the first row to the newest, never the old rows past it
abbrev pub logged_in : UistBroker → List Trade → List Trade
logged_in b log = take b.exchange.counts.logged log

-- turnover: 16; cost basis: 16, then 1 for a symbol above 255
abbrev pub turnover_fault : UistBroker → List Trade → Option Fault
turnover_fault b log = drawn (log_test b log ∷ [])

abbrev pub basis_fault : UistBroker → List Trade → ℕ → Option Fault
basis_fault b log s = drawn (log_test b log ∷ (ltb 255 s draws UnknownSymbol) ∷ [])

-- ---- the fold

abbrev pub basis_over : ℕ → List Trade → Rules.Basis
basis_over s l = foldl (basis_step s) no_basis l
