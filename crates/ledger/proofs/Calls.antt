-- Each call of the program meets the ledger's step, and answers alike. Assumes nothing.
use Prim.Native.Nat.{ℕ, ◌<◌, ◌^◌}
use native.Mathlib.Omega.{arith}
use mathlib.Core.Bool.{Bool, true, false, not, cond, ◌||◌}
use mathlib.Core.Path.{◌≡◌, refl, ◌∙◌, sym, ap, ap₂}
use mathlib.Core.List.{List, [], ◌∷◌, ◌++◌}
use Rattle.std.specs.declared.option.Option.{Option}
use Rattle.std.specs.declared.option.Option.TheVariants.{None, Some}
use lib.Dec.{ltb}
use lib.Ieee.{Float}
use lib.Ieee.Scale.{finite}
use lib.ListN.{length}
use borrow.Author.Tests.{eq-eqb}
use Rattle.lists.specs.Lists.{over, stored}
use Rattle.lists.proofs.Over.{length_over, stored-over}
use Rattle.market.specs.Faults.{Test, ◌draws◌, drawn, unless_drawn, first_drawn}
use Rattle.market.specs.declared.fault.Fault.{Fault}
use Rattle.market.specs.declared.fault.Fault.TheVariants.{BadValue, BrokerFailed, WithdrawFailed, ListTooShort, Unsound}
use Rattle.market.specs.Orders.{zero64}
use Rattle.market.specs.Quotes.{table_tests, table_of}
use Rattle.market.specs.declared.order.Order.{Order}
use Rattle.market.specs.declared.quote.Quote.{Quote}
use Rattle.market.specs.declared.trade.Trade.{Trade}
use Rattle.market.specs.declared.weight.Weight.{Weight}
use Rattle.market.proofs.Faults.{append-none, none-drawn}
use Rattle.account.specs.declared.BrokerCashEvent.TheVariants.{WithdrawSuccess, WithdrawFailure, DepositSuccess, OperationFailure, NotFinite}
use Rattle.orders.specs.Orders.{Taken, fills_of}
use Rattle.broker.specs.Lender.{broken_for}
use Rattle.rules.specs.Amounts.{plus, minus, below}
use Rattle.rules.specs.Money.{with_cash}
use Rattle.rules.specs.Values.{total_value}
use Rattle.rules.specs.Weights.{plan_of, Plan}
use Rattle.portfolio.specs.State.{money_of}
use Rattle.broker.specs.Send as Send
use Rattle.broker.specs.Send.{events_of, sent_all}
use Rattle.broker.specs.Cash as Cash
use Rattle.broker.specs.Cash.{answered, cash_of, cash_moved, deposit_of, withdraw_of}
use Rattle.broker.specs.Liquidate.{liquidated_by, liquidate_of}
use Rattle.broker.specs.Check.{checked_by}
use Rattle.market.specs.Weights.{weight_rows}
use Rattle.broker.specs.Update.{weighed_by}
use Rattle.broker.specs.Lent.{send_list_fault, send_list_broker, send_list_events, check_for, trades_in, log_with, check_broker, check_traded, check_log, update_for, checked_on, plan_on, update_fault_of, update_broker, update_total, update_sent, update_events, update_log}
use Rattle.broker.specs.declared.state.UistBroker.{UistBroker}
use Rattle.market.specs.declared.order.OrderEvent.{OrderEvent}
use Rattle.broker.specs.declared.state.Told.{Told}
use Rattle.account.specs.declared.BrokerCashEvent.{BrokerCashEvent}
use Rattle.ledger.specs.Calls.{Call, deposit, withdraw, liquidate, send, send_list, insert, delete, check, update, Answer, fault, deposited, withdrawn, event, events, traded, updated}
use Rattle.ledger.specs.Ledger as Ledger
use Rattle.ledger.specs.Ledger.{Ledger, with_money, sending_all, send_events, liquidating, checking, after_weights, check_tests, update_tests, call_tests, acting, weigh_answer, answer_as, moved_as}
use Rattle.ledger.specs.Program as Program
use Rattle.ledger.specs.Program.{Held, cash_answer}
use Rattle.ledger.proofs.Kept as Kept
use Rattle.ledger.proofs.Standing.{Stands, unbroken, event-same, send-stands, insert-stands, insert-event, delete-stands, delete-number, cash-stands, cash-same, sends-stand, events-same, liquidate-stands, success-same}
use Rattle.ledger.proofs.Checking.{trades-same, check-stands, plan-same, weigh-stands}

pub record Meets (l₀ : List Trade) (s : Held) (L : Ledger) : Type 0 where
  pub stands : Stands s.broker L
  pub room-is : L.room ≡ length l₀
  pub log : s.log ≡ over L.orders.trades l₀

-- ---- cash

module _ (b : UistBroker) (L : Ledger) (m : Stands b L) (a : Float) where
  -- what is done where neither BadValue nor BrokerFailed is drawn
  abbrev moving : Bool → Bool → Told BrokerCashEvent → Told BrokerCashEvent
  moving fa fb done = cond fa (cond fb (answered b (OperationFailure a)) done) (answered b (NotFinite a))

  abbrev moving_tests : Bool → Bool → List Test → List Test
  moving_tests fa fb rest = (not fa draws BadValue) ∷ (fb draws BrokerFailed) ∷ rest

  moved-is : (done : Told BrokerCashEvent) → cash_moved b a done ≡ moving (finite a) L.money.failed done
  unfolding cash_moved
  moved-is done = rw (unbroken b L m) (ap (λ x. moving (finite a) x done) (ap (λ n. n.failed) m.money))

  moving-by : (fa fb : Bool) (rest : List Test) (done : Told BrokerCashEvent) (M : Ledger) → Stands done.broker (unless_drawn (drawn rest) M L) →
      Stands (moving fa fb done).broker (unless_drawn (drawn (moving_tests fa fb rest)) M L)
  unfolding drawn
  moving-by true true rest done M k = m
  moving-by true false rest done M k = k
  moving-by false fb rest done M k = m

  number_by : (success : Float → Answer) (fa fb : Bool) (rest : List Test) (done : Told BrokerCashEvent) → cash_answer done.event ≡ moved_as success (drawn rest) a →
      cash_answer (moving fa fb done).event ≡ moved_as success (drawn (moving_tests fa fb rest)) a
  unfolding drawn
  number_by success fa fb rest done k = grind (arith, k)

  cash-moves : (success : Float → Answer) (rest : List Test) (done : Told BrokerCashEvent) (M : Ledger) → Stands done.broker (unless_drawn (drawn rest) M L) → cash_answer done.event ≡ moved_as success (drawn rest) a →
      Stands (cash_moved b a done).broker (unless_drawn (drawn (moving_tests (finite a) L.money.failed rest)) M L) × (cash_answer (cash_moved b a done).event ≡ moved_as success (drawn (moving_tests (finite a) L.money.failed rest)) a)
  cash-moves success rest done M k n =
      rw (moved-is done) (moving-by (finite a) L.money.failed rest done M k, number_by success (finite a) L.money.failed rest done n)

  -- a deposit
  abbrev deposit_done : Told BrokerCashEvent
  deposit_done = answered (Cash.with_cash b (plus a (cash_of b))) (DepositSuccess a)

  deposit-stands : Stands deposit_done.broker (with_money L (with_cash L.money (plus a L.money.cash)))
  deposit-stands = rw (cash-same b L m) (cash-stands b L m (plus a L.money.cash))

  pub deposits : Stands (deposit_of b a).broker (Ledger.step L (deposit a)) × (cash_answer (deposit_of b a).event ≡ Ledger.answer L (deposit a))
  unfolding deposit_of Ledger.step call_tests acting answer_as drawn
  deposits =
      cash-moves deposited [] deposit_done (with_money L (with_cash L.money (plus a L.money.cash))) deposit-stands refl

  -- a withdrawal
  abbrev withdraw_done : Bool → Told BrokerCashEvent
  withdraw_done t = cond t (answered b (WithdrawFailure a)) (answered (Cash.with_cash b (minus (cash_of b) a)) (WithdrawSuccess a))

  withdraw-by : (t : Bool) → Stands (withdraw_done t).broker (unless_drawn (drawn ((t draws WithdrawFailed) ∷ [])) (with_money L (with_cash L.money (minus L.money.cash a))) L) × (cash_answer (withdraw_done t).event ≡ moved_as withdrawn (drawn ((t draws WithdrawFailed) ∷ [])) a)
  unfolding drawn
  withdraw-by true = (m, refl)
  withdraw-by false = (rw (cash-same b L m) (cash-stands b L m (minus L.money.cash a)), refl)

  pub withdraws : Stands (withdraw_of b a).broker (Ledger.step L (withdraw a)) × (cash_answer (withdraw_of b a).event ≡ Ledger.answer L (withdraw a))
  unfolding withdraw_of Ledger.step call_tests acting answer_as
  withdraws =
      let t = below L.money.cash a in
      let e : below (cash_of b) a ≡ t = ap (λ x. below x a) (cash-same b L m) in
      let w = withdraw-by t in
      cash-moves withdrawn ((t draws WithdrawFailed) ∷ []) (withdraw_done (below (cash_of b) a)) (with_money L (with_cash L.money (minus L.money.cash a))) (rw e w.0) (rw e w.1)

  -- a liquidation
  abbrev liquidate_done : Bool → Bool → Told BrokerCashEvent
  liquidate_done fa ok = cond fa (answered (liquidated_by b a) (cond ok (WithdrawSuccess a) (WithdrawFailure a))) (answered b (NotFinite a))

  liquidate-by : (fa ok : Bool) → Stands (liquidate_done fa ok).broker (unless_drawn (drawn ((not fa draws BadValue) ∷ [])) (liquidating L a) L) × (cash_answer (liquidate_done fa ok).event ≡ moved_as withdrawn (unless_drawn (drawn ((not fa draws BadValue) ∷ [])) (cond ok None (Some WithdrawFailed)) (drawn ((not fa draws BadValue) ∷ []))) a)
  unfolding drawn
  liquidate-by false ok = (m, refl)
  liquidate-by true true = (liquidate-stands b L m a, refl)
  liquidate-by true false = (liquidate-stands b L m a, refl)

  pub liquidates : Stands (liquidate_of b a).broker (Ledger.step L (liquidate a)) × (cash_answer (liquidate_of b a).event ≡ Ledger.answer L (liquidate a))
  unfolding liquidate_of Ledger.step call_tests acting answer_as
  liquidates =
      rw (unbroken b L m, success-same b L m a)
      (liquidate-by (finite a) (Ledger.succeeds L a))

-- ---- sends

module _ (b : UistBroker) (L : Ledger) (m : Stands b L) where
  pub sends : (o : Order) → Stands (Send.send_of b o).broker (Ledger.step L (send o)) × (event (Send.send_of b o).event ≡ Ledger.answer L (send o))
  unfolding Send.send_of Ledger.step call_tests acting answer_as drawn
  sends o = rw (unbroken b L m) (send-stands b L m o, ap event (event-same b L m o))

  list-number : (l : List Order) (e : List OrderEvent) → send_list_fault b l e ≡ drawn ((ltb (length e) (length l) draws ListTooShort) ∷ [])
  unfolding send_list_fault drawn
  list-number l e = rw (unbroken b L m)

  list-by : (l : List Order) (e : List OrderEvent) (d : Option Fault) → Stands (unless_drawn d (sent_all b l) b) (unless_drawn d (sending_all L l) L) × (events d (unless_drawn d (over (events_of b l) e) e) ≡ events d (unless_drawn d (over (send_events L l) e) e))
  list-by l e None = (sends-stand b L l m, ap (λ x. events None (over x e)) (events-same b L l m))
  list-by l e (Some f) = (m, refl)

  pub sends-list : (l : List Order) (e : List OrderEvent) → Stands (send_list_broker b l e) (Ledger.step L (send_list l e)) × (events (send_list_fault b l e) (send_list_events b l e) ≡ Ledger.answer L (send_list l e))
  unfolding send_list_broker send_list_events Ledger.step call_tests acting answer_as
  sends-list l e = rw (list-number l e) (list-by l e (drawn ((ltb (length e) (length l) draws ListTooShort) ∷ [])))

  pub inserts : (o : Order) → Stands (Send.insert_of b o).broker (Ledger.step L (insert o)) × (event (Send.insert_of b o).event ≡ Ledger.answer L (insert o))
  unfolding Ledger.step call_tests acting answer_as drawn
  inserts o = (insert-stands b L m o, ap event (insert-event b L m o))

  pub removes : (n : ℕ) → Stands (Send.delete_of b n).state (Ledger.step L (delete n)) × (fault (Send.delete_of b n).fault ≡ Ledger.answer L (delete n))
  unfolding Ledger.step call_tests acting answer_as drawn
  removes n = (delete-stands b L m n, ap fault (delete-number b L m n))

-- ---- checks and updates

module _ (l₀ : List Trade) (s : Held) (L : Ledger) (m : Meets l₀ s L) (h : length l₀ < 2 ^ 64) where
  log-length : length s.log ≡ length l₀
  log-length =
      ap length m.log
      ∙ length_over L.orders.trades l₀ (omega (arith, m.stands.books.fit.traded, m.stands.books.fit.room-left, m.room-is))

  -- Unsound is not drawn by a log that is the start's
  pub log-test : broken_for s.broker (length s.log) ≡ false
  log-test =
      ap₂ (λ x y. not x || y) (eq-eqb (length s.log) s.broker.exchange.counts.room (omega (arith, log-length, m.room-is, m.stands.books.room-is))) (unbroken s.broker L m.stands)

  below-room : L.room < 2 ^ 64
  below-room = omega (arith, m.room-is)

  -- the log after an unrefused check
  log-after : (t f : List Quote) → drawn (table_tests 0 t) ≡ None → drawn (table_tests 0 f) ≡ None → log_with s.broker t s.log ≡ over (L.orders.trades ++ fills_of t L.orders.booked) l₀
  log-after t f dt df =
      ap₂ (λ l x. stored l s.broker.exchange.counts.logged x) m.log (trades-same s.broker L m.stands t f dt df)
      ∙ stored-over L.orders.trades (fills_of t L.orders.booked) l₀ s.broker.exchange.counts.logged m.stands.books.logged-is

  -- ---- a check

  check-number : (t f : List Quote) → check_for s.broker t f s.log ≡ drawn (check_tests t f)
  unfolding check_for drawn
  check-number t f = ap (λ x. drawn ((x draws Unsound) ∷ (table_tests 0 t ++ table_tests 0 f))) log-test

  -- trades stand in the ledger once it has checked
  kept-trades : (t f : List Quote) → (checking L t f).orders.trades ≡ L.orders.trades ++ fills_of t L.orders.booked
  kept-trades t f = Kept.checking-trades L t f

  checked-by : (t f : List Quote) (d : Option Fault) → drawn (check_tests t f) ≡ d →
      Meets l₀
      (record {
        broker = unless_drawn d (checked_by s.broker (table_of t) (table_of f)) s.broker;
        log = unless_drawn d (log_with s.broker t s.log) s.log;
      })
      (unless_drawn d (checking L t f) L)
  checked-by t f (Some x) r = m
  checked-by t f None r =
      let e = append-none (table_tests 0 t) (table_tests 0 f) r in
      record {
        stands = check-stands s.broker L m.stands t f e.0 e.1 below-room;
        room-is = Kept.checking-room L t f ∙ m.room-is;
        log = log-after t f e.0 e.1 ∙ ap (λ x. over x l₀) (sym (kept-trades t f));
      }

  pub check-meets : (t f : List Quote) → Meets l₀ (Program.step s (check t f)) (Ledger.step L (check t f))
  unfolding Program.step check_broker check_log Ledger.step call_tests acting
  check-meets t f = rw (check-number t f) (checked-by t f (drawn (check_tests t f)) refl)

  traded-by : (t f : List Quote) (d : Option Fault) → drawn (check_tests t f) ≡ d → unless_drawn d (length (trades_in s.broker t)) 0 ≡ unless_drawn d (length (fills_of t L.orders.booked)) 0
  traded-by t f (Some x) r = refl
  traded-by t f None r =
      let e = append-none (table_tests 0 t) (table_tests 0 f) r in
      ap length (trades-same s.broker L m.stands t f e.0 e.1)

  pub check-answer : (t f : List Quote) → Program.answer s (check t f) ≡ Ledger.answer L (check t f)
  unfolding Program.answer check_traded call_tests answer_as
  check-answer t f = rw (check-number t f) (ap (traded (drawn (check_tests t f))) (traded-by t f (drawn (check_tests t f)) refl))

  -- ---- an update

  module _ (t f : List Quote) (w : List Weight) (e : List OrderEvent) where
    update-number : update_for s.broker t f w e s.log ≡ drawn (update_tests t f w (length e))
    unfolding update_for drawn
    update-number = ap (λ x. drawn ((x draws Unsound) ∷ (ltb (length e) (length w) draws ListTooShort) ∷ ((table_tests 0 t ++ table_tests 0 f) ++ weight_rows 0 w))) log-test

    update-tables : drawn (update_tests t f w (length e)) ≡ None → (drawn (table_tests 0 t) ≡ None) × (drawn (table_tests 0 f) ≡ None)
    update-tables d =
        let a = none-drawn (ltb (length e) (length w)) ListTooShort (check_tests t f ++ weight_rows 0 w) d in
        let b = append-none (check_tests t f) (weight_rows 0 w) a.1 in
        append-none (table_tests 0 t) (table_tests 0 f) b.0

    -- the broker stands for the ledger after the update's check
    checked-stands : drawn (update_tests t f w (length e)) ≡ None → Stands (checked_on s.broker t f) (checking L t f)
    checked-stands d = let r = update-tables d in check-stands s.broker L m.stands t f r.0 r.1 below-room

    updated-by : (d : Option Fault) → drawn (update_tests t f w (length e)) ≡ d →
        Meets l₀
        (record {
          broker = unless_drawn d (weighed_by (checked_on s.broker t f) w) s.broker;
          log = unless_drawn d (log_with s.broker t s.log) s.log;
        })
        (unless_drawn d (after_weights (checking L t f) w) L)
    updated-by (Some x) n = m
    updated-by None n =
        let r = update-tables n in
        record {
          stands = weigh-stands (checked_on s.broker t f) (checking L t f) (checked-stands n) w;
          room-is = Kept.weigh-room (checking L t f) w ∙ Kept.checking-room L t f ∙ m.room-is;
          log = log-after t f r.0 r.1 ∙ ap (λ x. over x l₀) (sym (Kept.weigh-trades (checking L t f) w ∙ kept-trades t f));
        }

    pub update-meets : Meets l₀ (Program.step s (update t f w e)) (Ledger.step L (update t f w e))
    unfolding Program.step update_broker update_log Ledger.step call_tests acting
    update-meets = rw update-number (updated-by (drawn (update_tests t f w (length e))) refl)

    -- the four answers of an update, by its plan
    abbrev weighed : Plan → Answer
    weighed p =
        updated p.fault (unless_drawn p.fault (total_value (money_of (checked_on s.broker t f).portfolio)) zero64) (length p.orders)
        (over (events_of (checked_on s.broker t f) p.orders) e)

    weigh-answer : Stands (checked_on s.broker t f) (checking L t f) → (p : Plan) → weighed p ≡ weigh_answer (checking L t f) p e
    weigh-answer k p =
        ap₂ (λ x y. updated p.fault (unless_drawn p.fault (total_value x) zero64) (length p.orders) (over y e)) k.money (events-same (checked_on s.broker t f) (checking L t f) p.orders k)

    answered-by : (d : Option Fault) → drawn (update_tests t f w (length e)) ≡ d →
        updated (first_drawn d (plan_on s.broker t f w).fault)
        (unless_drawn d (unless_drawn (plan_on s.broker t f w).fault (total_value (money_of (checked_on s.broker t f).portfolio)) zero64) zero64)
        (unless_drawn d (length (plan_on s.broker t f w).orders) 0)
        (unless_drawn d (over (events_of (checked_on s.broker t f) (plan_on s.broker t f w).orders) e) e)
        ≡ unless_drawn d (weigh_answer (checking L t f) (plan_of (checking L t f).money w) e) (updated d zero64 0 e)
    answered-by (Some x) n = refl
    answered-by None n =
        ap weighed (plan-same (checked_on s.broker t f) (checking L t f) (checked-stands n) w)
        ∙ weigh-answer (checked-stands n) (plan_of (checking L t f).money w)

    pub update-answer : Program.answer s (update t f w e) ≡ Ledger.answer L (update t f w e)
    unfolding Program.answer update_fault_of update_total update_sent update_events call_tests answer_as
    update-answer = rw update-number (answered-by (drawn (update_tests t f w (length e))) refl)

  -- ---- any call

  -- a call that leaves the log and the trades
  alike : {b : UistBroker} {M : Ledger} {new : List Taken} → Stands b M → Kept.Keeps L new M → Meets l₀ (record { broker = b; log = s.log }) M
  alike k q = record { stands = k; room-is = q.room ∙ m.room-is; log = m.log ∙ ap (λ x. over x l₀) (sym q.trades) }

  delete-meets : (n : ℕ) → Meets l₀ (record { broker = (Send.delete_of s.broker n).state; log = s.log }) (Ledger.step L (delete n))
  unfolding Ledger.step call_tests acting drawn
  delete-meets n = record { stands = delete-stands s.broker L m.stands n; room-is = m.room-is; log = m.log }

  pub step-meets : (c : Call) → Meets l₀ (Program.step s c) (Ledger.step L c)
  unfolding Program.step
  step-meets (deposit a) = alike (deposits s.broker L m.stands a).0 (Kept.quiet-deposit L a)
  step-meets (withdraw a) = alike (withdraws s.broker L m.stands a).0 (Kept.quiet-withdraw L a)
  step-meets (liquidate a) = alike (liquidates s.broker L m.stands a).0 (Kept.quiet-liquidate L a)
  step-meets (send o) = alike (sends s.broker L m.stands o).0 (Kept.quiet-send L o)
  step-meets (send_list l e) = alike (sends-list s.broker L m.stands l e).0 (Kept.quiet-list L l e)
  step-meets (insert o) = alike (inserts s.broker L m.stands o).0 (Kept.quiet-insert L o)
  step-meets (delete n) = delete-meets n
  step-meets (check t f) = check-meets t f
  step-meets (update t f w e) = update-meets t f w e

  pub step-answer : (c : Call) → Program.answer s c ≡ Ledger.answer L c
  unfolding Program.answer
  step-answer (deposit a) = (deposits s.broker L m.stands a).1
  step-answer (withdraw a) = (withdraws s.broker L m.stands a).1
  step-answer (liquidate a) = (liquidates s.broker L m.stands a).1
  step-answer (send o) = (sends s.broker L m.stands o).1
  step-answer (send_list l e) = (sends-list s.broker L m.stands l e).1
  step-answer (insert o) = (inserts s.broker L m.stands o).1
  step-answer (delete n) = (removes s.broker L m.stands n).1
  step-answer (check t f) = check-answer t f
  step-answer (update t f w e) = update-answer t f w e
