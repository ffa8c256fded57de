-- A check on the program's state. Definitions only.
use Rattle.std.specs.Prelude.{ℕ, ◌≤◌, Bool, true, cond, ◌≡◌, Float, length, Option}
use mathlib.Core.List.{foldl}
use Rattle.market.specs.Faults.{unless_drawn, first_drawn}
use Rattle.market.specs.declared.fault.Fault.{Fault}
use Rattle.market.specs.Orders.{zero64}
use Rattle.market.specs.Quotes.{row_at}
use Rattle.market.specs.declared.table.Table.{Table}
use Rattle.exchange.specs.State.{resting_of}
use Rattle.exchange.specs.Tick.{trades_of, ticked, tick_of}
use Rattle.rules.specs.Amounts.{plus, negated, below}
use Rattle.rules.specs.Liquidation.{buffer}
use Rattle.portfolio.specs.State.{money_of}
use Rattle.portfolio.specs.Booking.{settle_one, merge_of}
use Rattle.portfolio.specs.Liquidate.{succeeds, held_count}
use Rattle.broker.specs.Lender.{broker_log_fault}
use Rattle.broker.specs.Send.{with_funds}
use Rattle.broker.specs.Cash.{cash_of}
use Rattle.broker.specs.Liquidate.{sales_of, liquidated_by}
use Rattle.portfolio.specs.declared.state.Funds.{Funds}
use Rattle.broker.specs.declared.state.UistBroker.{UistBroker}
use Rattle.broker.specs.declared.check.Settled.{Settled}
use Rattle.broker.specs.declared.check.Checked.{Checked}

-- ---- a shortfall

abbrev pub fail_funds : Funds → Funds
fail_funds f = record { holding = f.holding; pending = f.pending; cash = f.cash; failed = true }

unfoldable pub failed_of : UistBroker → UistBroker
failed_of b = with_funds b (fail_funds b.portfolio.funds)

abbrev pub shortfall : UistBroker → Float
shortfall b = plus (negated (cash_of b)) buffer

abbrev pub failed_unless : Bool → UistBroker → UistBroker
failed_unless ok b = cond ok b (failed_of b)

-- if cash < 0 it liquidates -cash plus 1,000.0; if that fails, the broker is Failed for good
unfoldable pub rescued_by : UistBroker → UistBroker
rescued_by b = cond (below (cash_of b) zero64) (failed_unless (succeeds (sales_of b (shortfall b))) (liquidated_by b (shortfall b))) b

pub record Rescues (b : UistBroker) (after : UistBroker) (queued : ℕ) : Type 0 where
  pub broker : after ≡ rescued_by b
  pub few : queued ≤ held_count (money_of b.portfolio)

-- ---- the check

-- 16, then the tradable rows, then the fetched ones
unfoldable pub check_fault : UistBroker → ℕ → Option Fault → Option Fault → Option Fault
check_fault b n tradable fetched = first_drawn (broker_log_fault b n) (first_drawn tradable fetched)

-- ticks on tradable, takes fetched rows as latest, books each trade
abbrev pub booked_by : UistBroker → Table → Table → UistBroker
booked_by b t f =
    record {
      exchange = ticked b.exchange (row_at t);
      portfolio = record {
        latest = merge_of b.portfolio.latest f;
        funds = foldl settle_one b.portfolio.funds (trades_of (row_at t) (resting_of b.exchange));
        costs = b.portfolio.costs;
        lot = b.portfolio.lot;
      };
    }

unfoldable pub checked_by : UistBroker → Table → Table → UistBroker
checked_by b t f = rescued_by (booked_by b t f)

-- a check in place: the state, and what it comes to beside it
abbrev pub checked_with : UistBroker → Settled → Checked
checked_with b x = record { broker = b; trades = x.trades; count = x.count; first = x.first; queued = x.queued; fault = x.fault }

-- a check that is refused comes to no trades, of which the first places are those of its tick
pub record Refuses (b : UistBroker) (t : Table) (fault : Option Fault) (r : Settled) : Type 0 where
  pub trades : r.trades ≡ (tick_of b.exchange t).trades
  pub count : r.count ≡ 0
  pub first : r.first ≡ 0
  pub queued : r.queued ≡ 0
  pub drawn : r.fault ≡ fault

-- a check that draws nothing acts; one that draws something changes nothing. The trades are those of its tick, in the first `count` places
pub record Checks (b : UistBroker) (t f : Table) (n : ℕ) (r : Checked) : Type 0 where
  pub fault : r.fault ≡ check_fault b n t.fault f.fault
  pub broker : r.broker ≡ unless_drawn r.fault (checked_by b t f) b
  pub trades : r.trades ≡ (tick_of b.exchange t).trades
  pub count : r.count ≡ unless_drawn r.fault (length (trades_of (row_at t) (resting_of b.exchange))) 0
  pub first : r.first ≡ unless_drawn r.fault b.exchange.counts.logged 0
  -- sells queued: left free, at most the number of held symbols once the trades are booked; 0 where something is drawn
  pub queued : r.queued ≤ unless_drawn r.fault (held_count (money_of (booked_by b t f).portfolio)) 0
