-- The program over a list of calls, by its own definitions: each call finds the broker and the log as the last call left them. Definitions only.
use Rattle.std.specs.Prelude.{ℕ, List, [], ◌∷◌}
use Rattle.std.specs.Result.{result_unwrap_or}
use Rattle.market.specs.declared.quote.Quote.{Quote}
use Rattle.market.specs.declared.trade.Trade.{Trade}
use Rattle.costs.specs.declared.TradeCosts.{TradeCosts}
use Rattle.account.specs.Account.{cash_fault, cash_amount}
use Rattle.account.specs.declared.BrokerCashEvent.{BrokerCashEvent}
use Rattle.account.specs.declared.BrokerCashEvent.TheVariants.{WithdrawSuccess, WithdrawFailure, DepositSuccess, OperationFailure, NotFinite, Broken}
use Rattle.broker.specs.Build.{no_broker}
use Rattle.broker.specs.Send as Send
use Rattle.broker.specs.Cash.{deposit_of, withdraw_of}
use Rattle.broker.specs.Liquidate.{liquidate_of}
use Rattle.broker.specs.Lent.{build_for, send_list_fault, send_list_broker, send_list_events, check_for, check_broker, check_traded, check_log, update_fault_of, update_broker, update_total, update_sent, update_events, update_log}
use Rattle.broker.specs.declared.state.UistBroker.{UistBroker}
use Rattle.ledger.specs.Calls.{Call, deposit, withdraw, liquidate, send, send_list, insert, delete, check, update, Answer, fault, deposited, withdrawn, refused, event, events, traded, updated}

pub record Held : Type 0 where
  pub broker : UistBroker
  pub log : List Trade

-- the broker that the builder answers for a log, and `no_broker` where it draws something; and the log
abbrev pub built : TradeCosts → ℕ → List Quote → List Trade → Held
built costs lot first log = record { broker = result_unwrap_or (build_for costs lot first log) no_broker; log = log }

abbrev pub with_broker : Held → UistBroker → Held
with_broker s b = record { broker = b; log = s.log }

unfoldable pub step : Held → Call → Held
step s (deposit a) = with_broker s (deposit_of s.broker a).broker
step s (withdraw a) = with_broker s (withdraw_of s.broker a).broker
step s (liquidate a) = with_broker s (liquidate_of s.broker a).broker
step s (send o) = with_broker s (Send.send_of s.broker o).broker
step s (send_list l e) = with_broker s (send_list_broker s.broker l e)
step s (insert o) = with_broker s (Send.insert_of s.broker o).broker
step s (delete n) = with_broker s (Send.delete_of s.broker n).state
step s (check t f) = record { broker = check_broker s.broker t f s.log; log = check_log s.broker t f s.log }
step s (update t f w e) = record { broker = update_broker s.broker t f w e s.log; log = update_log s.broker t f w e s.log }

abbrev pub refused_by : BrokerCashEvent → Answer
refused_by e = refused (cash_fault e) (cash_amount e)

-- what an event says: each success by itself; of the others what was drawn and the amount
abbrev pub cash_answer : BrokerCashEvent → Answer
cash_answer (DepositSuccess a) = deposited (cash_amount (DepositSuccess a))
cash_answer (WithdrawSuccess a) = withdrawn (cash_amount (WithdrawSuccess a))
cash_answer (WithdrawFailure a) = refused_by (WithdrawFailure a)
cash_answer (OperationFailure a) = refused_by (OperationFailure a)
cash_answer (NotFinite a) = refused_by (NotFinite a)
cash_answer (Broken a) = refused_by (Broken a)

unfoldable pub answer : Held → Call → Answer
answer s (deposit a) = cash_answer (deposit_of s.broker a).event
answer s (withdraw a) = cash_answer (withdraw_of s.broker a).event
answer s (liquidate a) = cash_answer (liquidate_of s.broker a).event
answer s (send o) = event (Send.send_of s.broker o).event
answer s (send_list l e) = events (send_list_fault s.broker l e) (send_list_events s.broker l e)
answer s (insert o) = event (Send.insert_of s.broker o).event
answer s (delete n) = fault (Send.delete_of s.broker n).fault
answer s (check t f) = traded (check_for s.broker t f s.log) (check_traded s.broker t f s.log)
answer s (update t f w e) =
    updated (update_fault_of s.broker t f w e s.log) (update_total s.broker t f w e s.log) (update_sent s.broker t f w e s.log) (update_events s.broker t f w e s.log)

unfoldable pub run : Held → List Call → Held
run s [] = s
run s (c ∷ cs) = run (step s c) cs

unfoldable pub answers : Held → List Call → List Answer
answers s [] = []
answers s (c ∷ cs) = answer s c ∷ answers (step s c) cs
