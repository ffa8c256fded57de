-- Liquidation on the program's state. Definitions only.
use Rattle.std.specs.Prelude.{ℕ, ◌≤◌, not, cond, ◌≡◌, List, [], ◌∷◌, Float}
use Rattle.std.specs.Prelude.{Option}
use Rattle.std.specs.Float.Ieee.Scale.{finite}
use Rattle.lists.specs.Lists.{given}
use Rattle.market.specs.Faults.{Test, ◌draws◌}
use Rattle.market.specs.declared.fault.Fault.TheVariants.{BadValue, WithdrawFailed, Unsound}
use Rattle.market.specs.declared.order.Order.{Order}
use Rattle.account.specs.declared.BrokerCashEvent.TheVariants.{WithdrawSuccess, WithdrawFailure, NotFinite, Broken}
use Rattle.rules.specs.Amounts.{minus, below}
use Rattle.rules.specs.Liquidation.{sales_for}
use Rattle.portfolio.specs.State.{money_of}
use Rattle.portfolio.specs.Liquidate.{succeeds, held_count}
use Rattle.broker.specs.Lender.{broken}
use Rattle.broker.specs.Send.{sent_all}
use Rattle.broker.specs.Cash.{with_cash, cash_of, answered}
use Rattle.broker.specs.declared.state.UistBroker.{UistBroker}
use Rattle.broker.specs.declared.state.Told.{Told}
use Rattle.account.specs.declared.BrokerCashEvent.{BrokerCashEvent}

-- failing debits the amount from cash unless the amount exceeds cash
abbrev pub failing : UistBroker → Float → UistBroker
failing b a = cond (below (cash_of b) a) b (with_cash b (minus (cash_of b) a))

abbrev pub sales_of : UistBroker → Float → Option (List Order)
sales_of b a = sales_for (money_of b.portfolio) a

-- with rest 0 the orders are sent, cash untouched
unfoldable pub liquidated_by : UistBroker → Float → UistBroker
liquidated_by b a = given (sales_of b a) (failing b a) (sent_all b)

-- whether it succeeds, and how many sells it queued: that count is free, at most the number of held symbols
pub record Liquidates (b : UistBroker) (a : Float) (after : UistBroker) (queued : Option ℕ) : Type 0 where
  pub broker : after ≡ liquidated_by b a
  pub done : succeeds queued ≡ succeeds (sales_of b a)
  pub few : given queued 0 (λ n. n) ≤ held_count (money_of b.portfolio)

-- 16, 2; success is answered, or 12
unfoldable pub liquidate_of : UistBroker → Float → Told BrokerCashEvent
liquidate_of b a =
    cond (broken b) (answered b (Broken a))
    (cond (finite a)
    (answered (liquidated_by b a) (cond (succeeds (sales_of b a)) (WithdrawSuccess a) (WithdrawFailure a)))
    (answered b (NotFinite a)))

-- what it draws: 16, 2, 12; not 4
abbrev pub liquidate_tests : UistBroker → Float → List Test
liquidate_tests b a = (broken b draws Unsound) ∷ (not (finite a) draws BadValue) ∷ (not (succeeds (sales_of b a)) draws WithdrawFailed) ∷ []
