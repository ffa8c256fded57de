-- Deposits and withdrawals on the program's state. Definitions only.
use Rattle.std.specs.Prelude.{cond, not, List, [], ◌∷◌, ◌≡◌, Float}
use Rattle.std.specs.Prelude.{Option, None, Some, MatchOption}
use Rattle.std.specs.Float.Ieee.Scale.{finite}
use Rattle.market.specs.Faults.{Test, ◌draws◌, drawn}
use Rattle.market.specs.declared.fault.Fault.TheVariants.{BadValue, BrokerFailed, WithdrawFailed, Unsound}
use Rattle.account.specs.Account.{Tells}
use Rattle.account.specs.declared.BrokerCashEvent.{BrokerCashEvent}
use Rattle.account.specs.declared.Moved.{Moved}
use Rattle.account.specs.declared.BrokerCashEvent.TheVariants.{WithdrawSuccess, WithdrawFailure, DepositSuccess, OperationFailure, NotFinite, Broken}
use Rattle.rules.specs.Amounts.{plus, minus, below}
use Rattle.broker.specs.Lender.{broken}
use Rattle.broker.specs.Send.{with_funds}
use Rattle.portfolio.specs.declared.state.Funds.{Funds}
use Rattle.broker.specs.declared.state.UistBroker.{UistBroker}
use Rattle.broker.specs.declared.state.Told.{Told}

abbrev pub cash_funds : Funds → Float → Funds
cash_funds f x = record { holding = f.holding; pending = f.pending; cash = x; failed = f.failed }

abbrev pub with_cash : UistBroker → Float → UistBroker
with_cash b x = with_funds b (cash_funds b.portfolio.funds x)

abbrev pub cash_of : UistBroker → Float
cash_of b = b.portfolio.funds.cash

abbrev pub answered : UistBroker → BrokerCashEvent → Told BrokerCashEvent
answered b e = record { broker = b; event = e }

-- the refusal of a call about an amount: 16, 2
unfoldable pub amount_refusal : UistBroker → Float → Option BrokerCashEvent
amount_refusal b a = cond (broken b) (Some (Broken a)) (cond (finite a) None (Some (NotFinite a)))

-- of a call that moves cash: 16, 2, 4
unfoldable pub cash_refusal : UistBroker → Float → Option BrokerCashEvent
cash_refusal b a = cond (broken b) (Some (Broken a)) (cond (finite a) (cond b.portfolio.funds.failed (Some (OperationFailure a)) None) (Some (NotFinite a)))

-- 16, 2, 4; else what is done
unfoldable pub cash_moved : UistBroker → Float → Told BrokerCashEvent → Told BrokerCashEvent
cash_moved b a done =
    cond (broken b) (answered b (Broken a))
    (cond (finite a)
    (cond b.portfolio.funds.failed (answered b (OperationFailure a)) done)
    (answered b (NotFinite a)))

-- r is what is answered by a call that moves cash: 16, 2, 4, else the cash and the event of a move m, which `made` tells of the cash and the amount
abbrev pub MovesBy : UistBroker → Float → (Float → Float → Moved → Type 0) → Told BrokerCashEvent → Type 0
MovesBy b a made r = MatchOption (cash_refusal b a) ((m : Moved) × made (cash_of b) a m × (r ≡ answered (with_cash b m.cash) m.event)) (λ e. r ≡ answered b e)

-- a deposit is credited
unfoldable pub deposit_of : UistBroker → Float → Told BrokerCashEvent
deposit_of b a = cash_moved b a (answered (with_cash b (plus a (cash_of b))) (DepositSuccess a))

-- a withdrawal fails if above cash: 12
unfoldable pub withdraw_of : UistBroker → Float → Told BrokerCashEvent
withdraw_of b a =
    cash_moved b a
    (cond (below (cash_of b) a) (answered b (WithdrawFailure a)) (answered (with_cash b (minus (cash_of b) a)) (WithdrawSuccess a)))

-- ---- what cash movers draw

abbrev pub deposit_tests : UistBroker → Float → List Test
deposit_tests b a = (broken b draws Unsound) ∷ (not (finite a) draws BadValue) ∷ (b.portfolio.funds.failed draws BrokerFailed) ∷ []

abbrev pub withdraw_tests : UistBroker → Float → List Test
withdraw_tests b a =
    (broken b draws Unsound) ∷ (not (finite a) draws BadValue) ∷ (b.portfolio.funds.failed draws BrokerFailed) ∷ (below (cash_of b) a draws WithdrawFailed) ∷ []

-- what a mover answers: x, whose event tells what the tests draw, and the amount
pub record MovesCash (x : Told BrokerCashEvent) (tests : List Test) (a : Float) (r : Told BrokerCashEvent) : Type 0 where
  pub moved : r ≡ x
  pub tells : Tells r.event (drawn tests) a
