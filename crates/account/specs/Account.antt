-- Cash movers: document 01, section 4, "cash is credited and debited in the account itself". Definitions only.
use Rattle.std.specs.Prelude.{Option, Some, None, cond, [], ◌∷◌, ◌≡◌, Float}
use Rattle.market.specs.Faults.{◌draws◌, drawn}
use Rattle.market.specs.declared.fault.Fault.{Fault}
use Rattle.market.specs.declared.fault.Fault.TheVariants.{BadValue, BrokerFailed, WithdrawFailed, Unsound}
use Rattle.rules.specs.Amounts.{plus, minus, below}
use Rattle.account.specs.declared.Account.{Account}
use Rattle.account.specs.declared.BrokerCashEvent.{BrokerCashEvent}
use Rattle.account.specs.declared.BrokerCashEvent.TheVariants.{WithdrawSuccess, WithdrawFailure, DepositSuccess, OperationFailure, NotFinite, Broken}
use Rattle.account.specs.declared.Moved.{Moved}

-- cash mover: 4, 12; and 2 and 16, which the Rust does not have
abbrev pub cash_fault : BrokerCashEvent → Option Fault
cash_fault (WithdrawSuccess x) = None
cash_fault (WithdrawFailure x) = Some WithdrawFailed
cash_fault (DepositSuccess x) = None
cash_fault (OperationFailure x) = Some BrokerFailed
cash_fault (NotFinite x) = Some BadValue
cash_fault (Broken x) = Some Unsound

-- the amount that an event is about
abbrev pub cash_amount : BrokerCashEvent → Float
cash_amount (WithdrawSuccess x) = x
cash_amount (WithdrawFailure x) = x
cash_amount (DepositSuccess x) = x
cash_amount (OperationFailure x) = x
cash_amount (NotFinite x) = x
cash_amount (Broken x) = x

-- what an event tells: what is drawn, and the amount
pub record Tells (e : BrokerCashEvent) (d : Option Fault) (a : Float) : Type 0 where
  pub fault : cash_fault e ≡ d
  pub amount : cash_amount e ≡ a

-- a credit is value + cash
unfoldable pub credit_of : Float → Float → Moved
credit_of cash value = record { cash = plus value cash; event = DepositSuccess value }

-- a debit is cash - value, and fails above cash: 12
unfoldable pub debit_number : Float → Float → Option Fault
debit_number cash value = drawn ((below cash value draws WithdrawFailed) ∷ [])

unfoldable pub debit_of : Float → Float → Moved
debit_of cash value =
    cond (below cash value)
    (record { cash = cash; event = WithdrawFailure value })
    (record { cash = minus cash value; event = WithdrawSuccess value })

-- a forced debit does not ask; like a credit it draws nothing
abbrev pub no_number : Float → Float → Option Fault
no_number cash value = None

unfoldable pub force_of : Float → Float → Moved
force_of cash value = record { cash = minus cash value; event = WithdrawSuccess value }

-- the account that a move leaves
abbrev pub account_of : Moved → Account
account_of m = record { cash = m.cash }
