-- The builder: document 01, section 4, and what it draws. Definitions only.
use Rattle.std.specs.Prelude.{ℕ, not, List, [], ◌∷◌, ltb, Option, Result}
use Rattle.market.specs.Faults.{Test, ◌draws◌, drawn, first_drawn, ok_unless}
use Rattle.market.specs.declared.fault.Fault.{Fault}
use Rattle.market.specs.declared.fault.Fault.TheVariants.{BadValue, TooManyCosts, LotOutOfRange}
use Rattle.market.specs.Quotes.{empty_table}
use Rattle.market.specs.declared.table.Table.{Table}
use Rattle.costs.specs.declared.BrokerCost.{BrokerCost}
use Rattle.costs.specs.declared.TradeCosts.{TradeCosts}
use Rattle.costs.specs.Costs.{is_finite}
use Rattle.costs.specs.Kept.{costs_of, no_costs}
use Rattle.floats.specs.Lots.{is_lot}
use Rattle.exchange.specs.State.{fresh}
use Rattle.portfolio.specs.State.{no_funds}
use Rattle.broker.specs.declared.state.UistBroker.{UistBroker}

abbrev pub each_finite : List BrokerCost → List Test
each_finite [] = []
each_finite (c ∷ l) = (not (is_finite c) draws BadValue) ∷ each_finite l

-- 14 more than 16 costs, 17 a lot outside 1 to 1,000,000, then 2 for a cost
abbrev pub builder_tests : ℕ → ℕ → List BrokerCost → List Test
builder_tests count lot l = (ltb 16 count draws TooManyCosts) ∷ (not (is_lot lot) draws LotOutOfRange) ∷ each_finite l

-- what a program keeps where no broker was made: this one draws 16 at every call, since an order's number was given and no order taken, and its lot is 0
unfoldable pub no_broker : UistBroker
unfolding fresh
no_broker =
    record {
      exchange = record { book = (fresh 0).book; counts = record { resting = 0; waits = 0; ids = 1; taken = 0; logged = 0; room = 0 } };
      portfolio = record { latest = empty_table; funds = no_funds; costs = no_costs; lot = 0 };
    }

-- a fresh broker: the table's rows are the first latest quotes
abbrev pub fresh_broker : TradeCosts → ℕ → Table → ℕ → UistBroker
fresh_broker costs lot first room = record { exchange = fresh room; portfolio = record { latest = first; funds = no_funds; costs = costs; lot = lot } }

-- 14, 17, 2, then 1 to 3 for the first table
abbrev pub build_fault : TradeCosts → ℕ → Option Fault → Option Fault
build_fault costs lot fault = first_drawn (drawn (builder_tests costs.count lot (costs_of costs))) fault

unfoldable pub build_of : TradeCosts → ℕ → Table → ℕ → Result UistBroker Fault
build_of costs lot first room = ok_unless (build_fault costs lot first.fault) (fresh_broker costs lot first room)
