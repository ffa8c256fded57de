-- The broker's state, and what of it the rules read: `money_of`. Definitions only.
use Rattle.std.specs.Prelude.{◌≡◌, ℕ, false, cond, List, ltb, Float, get_or, replicate}
use mathlib.Core.List.{foldl}
use Rattle.std.specs.Prelude.{Option, None, Some}
use Rattle.std.specs.Float.{nan}
use Rattle.lists.specs.Lists.{given}
use Rattle.market.specs.Orders.{zero64}
use Rattle.market.specs.Quotes.{row_at}
use Rattle.costs.specs.declared.BrokerCost.{BrokerCost}
use Rattle.costs.specs.Costs.{trade_impact_total}
use Rattle.costs.specs.Kept.{costs_of}
use Rattle.rules.specs.Amounts.{plus}
use Rattle.rules.specs.Money.{Money, unless_zero}
use Rattle.rules.specs.Values.{symbols, value_of}
use Rattle.portfolio.specs.declared.state.Funds.{Funds}
use Rattle.portfolio.specs.declared.state.Portfolio.{Portfolio}

-- cash 0.0, nothing held, nothing pending, Ready
unfoldable pub no_funds : Funds
no_funds = record { holding = replicate 256 zero64; pending = replicate 256 None; cash = zero64; failed = false }

-- a symbol is held where its holding is not zero
abbrev pub held_at : List Float → ℕ → Option Float
held_at l n = cond (ltb n 256) (unless_zero (get_or l n nan)) None

abbrev pub pending_at : List (Option Float) → ℕ → Option Float
pending_at l n = get_or l n None

-- what the rules read of a portfolio
abbrev pub money_of : Portfolio → Money
money_of p =
    record {
      costs = costs_of p.costs;
      lot = p.lot;
      latest = row_at p.latest;
      failed = p.funds.failed;
      cash = p.funds.cash;
      held = held_at p.funds.holding;
      pending = pending_at p.funds.pending;
    }

-- what a sale of an amount leaves after costs
abbrev pub sold_for : List BrokerCost → Option Float → Option Float
sold_for costs a = given a None (λ x. Some (trade_impact_total costs x x false).budget)

-- cash with f of each position's value, added by ascending symbol
unfoldable pub cash_with : Money → (Float → Float) → Float
cash_with m f = foldl (λ v s. given (value_of m s) v (λ x. plus v (f x))) m.cash symbols

-- r is cash with what is counted of each position's value, whatever function counts it
abbrev pub CashWith : Money → (Float → Float → Type 0) → Float → Type 0
CashWith m counted r = (f : Float → Float) → ((x y : Float) → counted x y → y ≡ f x) → r ≡ cash_with m f
