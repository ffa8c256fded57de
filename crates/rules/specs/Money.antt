-- What the rules of sections 4 and 5 read and move: costs, the lot, latest quotes, Failed, cash, holdings and pending quantities. Definitions only.
use Rattle.std.specs.Prelude.{ℕ, Bool, ◌||◌, cond, eqb, Float}
use mathlib.Core.List.{List, foldl}
use Rattle.std.specs.Prelude.{Option, None, Some, unwrap_or}
use Rattle.lists.specs.Lists.{given}
use Rattle.market.specs.Orders.{zero64, is_sell}
use Rattle.market.specs.declared.order.Order.{Order}
use Rattle.market.specs.declared.quote.Quote.{Quote}
use Rattle.market.specs.declared.trade.Trade.{Trade}
use Rattle.market.specs.declared.trade.TradeType.{TradeType}
use Rattle.market.specs.declared.trade.TradeType.TheVariants.{Buy, Sell}
use Rattle.costs.specs.declared.BrokerCost.{BrokerCost}
use Rattle.rules.specs.Amounts.{plus, minus, negated, is_zero}

-- maps from symbols are functions to what may be missing
pub record Money : Type 0 where
  pub costs : List BrokerCost
  pub lot : ℕ
  pub latest : ℕ → Option Quote
  pub failed : Bool
  pub cash : Float
  pub held : ℕ → Option Float
  pub pending : ℕ → Option Float

abbrev pub with_cash : Money → Float → Money
with_cash m x = record { costs = m.costs; lot = m.lot; latest = m.latest; failed = m.failed; cash = x; held = m.held; pending = m.pending }

-- a map with another entry at a symbol
abbrev pub put : {A : Type 0} → (ℕ → Option A) → ℕ → Option A → ℕ → Option A
put m s v n = cond (eqb n s) v (m n)

-- holding and pending absent read as 0.0
abbrev pub or_zero : Option Float → Float
or_zero x = unwrap_or x zero64

-- ---- latest quotes: each fetched row is its symbol's latest quote, those of other symbols kept

abbrev pub fetch_one : (ℕ → Option Quote) → Quote → ℕ → Option Quote
fetch_one m q = put m q.symbol (Some q)

unfoldable pub fetched : List Quote → Money → Money
fetched t m = record { costs = m.costs; lot = m.lot; latest = foldl fetch_one m.latest t; failed = m.failed; cash = m.cash; held = m.held; pending = m.pending }

-- ---- a trade: a buy takes its value from cash, adds its shares to the holding and takes them off pending; a sale does the reverse.
-- Holding and pending are removed when a trade makes them zero; trade costs are not charged

abbrev pub unless_zero : Float → Option Float
unless_zero x = cond (is_zero x) None (Some x)

-- the amount is added for a buy, subtracted for a sale; and the other way round
abbrev pub adding : TradeType → Float → Float → Float
adding Buy x y = plus x y
adding Sell x y = minus x y

abbrev pub taking : TradeType → Float → Float → Float
taking Buy x y = minus x y
taking Sell x y = plus x y

-- cash after a trade: a credit is value + cash, a debit cash - value
abbrev pub paid : TradeType → Float → Float → Float
paid Buy cash value = minus cash value
paid Sell cash value = plus value cash

unfoldable pub settled : Money → Trade → Money
settled m x =
    let s = x.symbol in
    record {
      costs = m.costs;
      lot = m.lot;
      latest = m.latest;
      failed = m.failed;
      cash = paid x.typ m.cash x.value;
      held = put m.held s (unless_zero (adding x.typ (or_zero (m.held s)) x.quantity));
      pending = put m.pending s (unless_zero (taking x.typ (or_zero (m.pending s)) x.quantity));
    }

-- ---- a sent order raises pending by its shares (sell: lowers); a sum of zero stays present, and a first entry is the effect itself

abbrev pub effect : Order → Float
effect o = cond (is_sell o.kind) (negated o.shares) o.shares

unfoldable pub expected : Order → Money → Money
expected o m =
    record {
      costs = m.costs;
      lot = m.lot;
      latest = m.latest;
      failed = m.failed;
      cash = m.cash;
      held = m.held;
      pending = put m.pending o.symbol (Some (given (m.pending o.symbol) (effect o) (λ p. plus p (effect o))));
    }

-- ---- Failed for good where a liquidation failed

unfoldable pub failed_if : Bool → Money → Money
failed_if b m = record { costs = m.costs; lot = m.lot; latest = m.latest; failed = m.failed || b; cash = m.cash; held = m.held; pending = m.pending }
