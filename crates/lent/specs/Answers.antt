-- What the broker's calls on lent lists answer, and what the lists hold after them. Definitions only.
use Rattle.std.specs.Prelude.{ℕ, ◌≤◌, ◌≡◌, List, Result}
use Rattle.market.specs.Faults.{ok_unless}
use Rattle.market.specs.declared.fault.Fault.{Fault}
use Rattle.market.specs.declared.fault.After.{After}
use Rattle.market.specs.declared.order.Order.{Order}
use Rattle.market.specs.declared.quote.Quote.{Quote}
use Rattle.market.specs.declared.trade.Trade.{Trade}
use Rattle.market.specs.declared.weight.Weight.{Weight}
use Rattle.broker.specs.Lent.{send_list_fault, send_list_broker, send_list_events, check_for, check_broker, check_traded, check_log, held_after, update_fault_of, update_broker, update_total, update_sent, update_events, update_log}
use Rattle.broker.specs.declared.state.UistBroker.{UistBroker}
use Rattle.market.specs.declared.order.OrderEvent.{OrderEvent}
use Rattle.lent.specs.Walks.{walk_fault, walk_count, walk_orders}
use Rattle.lent.specs.declared.uist.CheckAnswer.{CheckAnswer}
use Rattle.lent.specs.declared.uist.UpdateAnswer.{UpdateAnswer}

-- a check; `after` is the log at exit
pub record AnswersCheck (b : UistBroker) (t f : List Quote) (log : List Trade) (r : CheckAnswer) (after : List Trade) : Type 0 where
  pub broker : r.broker ≡ check_broker b t f log
  pub traded : r.traded ≡ check_traded b t f log
  pub queued : r.queued ≤ held_after b t f log
  pub fault : r.fault ≡ check_for b t f log
  pub log_is : after ≡ check_log b t f log

-- a list of orders sent; `after` is the list of events at exit
pub record AnswersSend (b : UistBroker) (l : List Order) (e : List OrderEvent) (r : After UistBroker) (after : List OrderEvent) : Type 0 where
  pub broker : r.state ≡ send_list_broker b l e
  pub fault : r.fault ≡ send_list_fault b l e
  pub events : after ≡ send_list_events b l e

-- the walk alone: how many orders, or what was drawn; `after` is the list of orders at exit
pub record AnswersWalk (b : UistBroker) (w : List Weight) (o : List Order) (r : Result ℕ Fault) (after : List Order) : Type 0 where
  pub answer : r ≡ ok_unless (walk_fault b w o) (walk_count b w)
  pub orders : after ≡ walk_orders b w o

-- an update; `told` is the list of events at exit, and `after` the log
pub record AnswersUpdate (b : UistBroker) (t f : List Quote) (w : List Weight) (e : List OrderEvent) (log : List Trade) (r : UpdateAnswer) (told : List OrderEvent) (after : List Trade) : Type 0 where
  pub broker : r.broker ≡ update_broker b t f w e log
  pub total : r.total ≡ update_total b t f w e log
  pub sent : r.sent ≡ update_sent b t f w e log
  pub fault : r.fault ≡ update_fault_of b t f w e log
  pub events : told ≡ update_events b t f w e log
  pub log_is : after ≡ update_log b t f w e log
