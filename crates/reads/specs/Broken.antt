-- What 16 comes to at a broker: every call draws it first, and changes nothing. Definitions only.
use Rattle.std.specs.Prelude.{ℕ, ◌≡◌, List, Float, Some}
use Rattle.market.specs.Orders.{event_of}
use Rattle.market.specs.declared.order.Order.{Order}
use Rattle.market.specs.declared.order.OrderEvent.{OrderEvent}
use Rattle.market.specs.declared.quote.Quote.{Quote}
use Rattle.market.specs.declared.trade.Trade.{Trade}
use Rattle.market.specs.declared.weight.Weight.{Weight}
use Rattle.account.specs.declared.BrokerCashEvent.TheVariants.{Broken}
use Rattle.broker.specs.Cash.{answered, deposit_of, withdraw_of}
use Rattle.broker.specs.Liquidate.{liquidate_of}
use Rattle.broker.specs.Send.{send_of, insert_of, delete_of}
use Rattle.broker.specs.Lender.{broker_fault}
use Rattle.broker.specs.Lent.{send_list_fault, send_list_broker, send_list_events, check_for, check_broker, check_log, update_fault_of, update_broker, update_events, update_log}
use Rattle.broker.specs.Read.{symbol_fault, amounts_fault}
use Rattle.broker.specs.declared.state.UistBroker.{UistBroker}
use Rattle.lent.specs.Walks.{walk_fault, walk_orders}
use Rattle.lent.specs.Logs.{turnover_fault, basis_fault}
use Rattle.reads.specs.Answers.{list_fault}
use Rattle.market.specs.declared.fault.Fault.TheVariants.{Unsound}

-- every call on the broker b draws Unsound and leaves the broker, the log and the lent lists as they were. `broken-refuses` in `proofs/Broken.antt` proves it of
-- every broker that draws Unsound by itself, `lot-refuses-all` of every one with a lot outside 1 to 1,000,000
pub record DrawsSixteen (b : UistBroker) : Type 0 where
  -- cash movers
  pub deposit : (a : Float) → deposit_of b a ≡ answered b (Broken a)
  pub withdraw : (a : Float) → withdraw_of b a ≡ answered b (Broken a)
  pub liquidate : (a : Float) → liquidate_of b a ≡ answered b (Broken a)
  -- orders
  pub send : (o : Order) → send_of b o ≡ record { broker = b; event = event_of o (Some Unsound) }
  pub insert : (o : Order) → insert_of b o ≡ record { broker = b; event = event_of o (Some Unsound) }
  pub delete : (n : ℕ) → delete_of b n ≡ record { state = b; fault = Some Unsound }
  pub send-list : (l : List Order) (e : List OrderEvent) → (send_list_fault b l e ≡ Some Unsound) × (send_list_broker b l e ≡ b) × (send_list_events b l e ≡ e)
  -- checks, the walk, updates
  pub check : (t f : List Quote) (log : List Trade) → (check_for b t f log ≡ Some Unsound) × (check_broker b t f log ≡ b) × (check_log b t f log ≡ log)
  pub walk : (w : List Weight) (o : List Order) → (walk_fault b w o ≡ Some Unsound) × (walk_orders b w o ≡ o)
  pub update : (t f : List Quote) (w : List Weight) (e : List OrderEvent) (log : List Trade) →
      (update_fault_of b t f w e log ≡ Some Unsound) × (update_broker b t f w e log ≡ b) × (update_events b t f w e log ≡ e) × (update_log b t f w e log ≡ log)
  -- reads: of the whole, of a symbol, of figures, of the log, of lists
  pub read : broker_fault b ≡ Some Unsound
  pub read-symbol : (s : ℕ) → symbol_fault b s ≡ Some Unsound
  pub read-amounts : (x y : Float) → amounts_fault b x y ≡ Some Unsound
  pub turnover : (log : List Trade) → turnover_fault b log ≡ Some Unsound
  pub basis : (log : List Trade) (s : ℕ) → basis_fault b log s ≡ Some Unsound
  pub read-list : (count room : ℕ) → list_fault b count room ≡ Some Unsound
