-- An update by value on what was read off lent rows is the one that the crate broker's specs/Lent.antt states; its trades fit the log, and its events the list for them.
-- Assumes nothing.
use Rattle.std.specs.declared.option.Option.{Option}
use Rattle.std.specs.declared.option.Option.TheVariants.{None, Some}
use Prim.Native.Nat.{ℕ, ◌+◌, ◌≤◌}
use mathlib.Core.Path.{◌≡◌, refl, sym, ◌∙◌, ap}
use mathlib.Core.List.{List, [], ◌∷◌, ◌++◌, append_assoc}
use native.Mathlib.Omega.{arith}
use lib.Dec.{ltb}
use lib.ListN.{length, take}
use borrow.Author.Tests.{ltb-false}
use Rattle.lists.specs.Lists.{over, stored}
use Rattle.market.specs.Faults.{drawn, unless_drawn, first_drawn}
use Rattle.market.specs.declared.fault.Fault.{Fault}
use Rattle.market.specs.declared.fault.Fault.TheVariants.{ListTooShort, Unsound}
use Rattle.market.specs.Weights.{weight_rows, weights_of, weighed}
use Rattle.market.specs.Orders.{zero64}
use Rattle.market.specs.Quotes.{table_tests, table_of}
use Rattle.market.specs.declared.order.Order.{Order}
use Rattle.market.specs.declared.quote.Quote.{Quote}
use Rattle.market.specs.declared.table.Table.{Table}
use Rattle.market.specs.declared.trade.Trade.{Trade}
use Rattle.market.specs.declared.weight.Weight.{Weight}
use Rattle.market.proofs.Faults.{drawn-append, none-drawn, append-none}
use Rattle.market.proofs.Rows.{unless-same}
use Rattle.market.proofs.Tables.{table-fault}
use Rattle.market.proofs.Weights.{weights-fault, weights-all}
use Rattle.exchange.specs.Tick.{no_trades}
use Rattle.rules.specs.Values.{total_value}
use Rattle.rules.specs.Weights.{Plan}
use Rattle.portfolio.specs.State.{money_of}
use Rattle.broker.specs.Send.{events_of, no_events}
use Rattle.broker.specs.Update.{update_fault, plan_after, weighed_by, Updates}
use Rattle.broker.specs.Lender.{log_test, broker_log_fault, short_test}
use Rattle.broker.specs.Lent.{trades_in, log_with, update_for, checked_on, plan_on, update_fault_of, update_broker, update_total, update_sent, update_events, update_log}
use Rattle.broker.specs.declared.state.UistBroker.{UistBroker}
use Rattle.market.specs.declared.order.OrderEvent.{OrderEvent}
use Rattle.market.specs.declared.weight.Weights.{Weights}
use Rattle.broker.specs.declared.update.Lengths.{Lengths}
use Rattle.broker.specs.declared.update.Updated.{Updated}
use Rattle.broker.proofs.Settling.{tick-trades}
use Rattle.broker.proofs.Updating.{update-none}
use Rattle.lent.specs.Answers.{AnswersUpdate}
use Rattle.lent.specs.declared.uist.UpdateAnswer.{UpdateAnswer}
use Rattle.lent.proofs.Storing.{count-most, front-is, stored-by, fits_by, fits-first, over-by}
use Rattle.lent.proofs.Checked.{trades-fit}
use Rattle.lent.proofs.Sends.{length-events}
use Rattle.lent.proofs.Plans.{weighed-few, planned-few}

-- only where the first draws nothing does it matter what comes second
first-same : (d a b : Option Fault) → (d ≡ None → a ≡ b) → first_drawn d a ≡ first_drawn d b
first-same None a b e = e refl
first-same (Some f) a b e = refl

abbrev pub answer_in : Updated → UpdateAnswer
answer_in x = record { broker = x.broker; total = x.total; sent = x.sent; fault = x.fault }

module _ (b : UistBroker) (t f : List Quote) (w : List Weight) (e : List OrderEvent) (log : List Trade) where
  abbrev lengths : Lengths
  lengths = record { log = length log; events = length e; weights = length w }

  abbrev r : Weights
  r = weights_of w

  update-drawn : update_fault b lengths (table_of t).fault (table_of f).fault r.fault ≡ update_for b t f w e log
  unfolding update_fault update_for
  update-drawn =
      let rt = table_tests 0 t in
      let rf = table_tests 0 f in
      let rows = weight_rows 0 w in
      rw (table-fault t, table-fault f, weights-fault w)
      (ap (first_drawn (broker_log_fault b (length log)))
      (ap (first_drawn (drawn (short_test (length w) (length e) ∷ [])))
      (ap (first_drawn (drawn rt)) (sym (drawn-append rf rows))
      ∙ sym (drawn-append rt (rf ++ rows))
      ∙ ap drawn (sym (append_assoc rt rf rows)))
      ∙ sym (drawn-append (short_test (length w) (length e) ∷ []) ((rt ++ rf) ++ rows)))
      ∙ sym (drawn-append (log_test b log ∷ []) _))

  -- where nothing is drawn
  module _ (z : update_for b t f w e log ≡ None) where
    none-later : (length w ≤ length e) × (drawn (weight_rows 0 w) ≡ None)
    unfolding update_for
    none-later =
        let p = none-drawn _ Unsound _ z in
        let q = none-drawn (ltb (length e) (length w)) ListTooShort _ p.1 in (
          ltb-false (length e) (length w) q.0,
          (append-none (table_tests 0 t ++ table_tests 0 f) (weight_rows 0 w) q.1).1,
        )

    fit-log : (length (trades_in b t) ≤ 1024) × (b.exchange.counts.logged + length (trades_in b t) ≤ length log)
    unfolding update_for
    fit-log = trades-fit b t log _ z

  module _ {u v : Table} {k : Weights} {d : Option Fault} {y : Updated} (ru : u ≡ table_of t) (rv : v ≡ table_of f) (rk : k ≡ r) (done : Updates b u v k lengths d y) where
    updates : Updates b (table_of t) (table_of f) r lengths d y
    updates = rw (ru, rv, rk) at done

    drawn_is : d ≡ update_for b t f w e log
    drawn_is = updates.before ∙ update-drawn

    rows_are : d ≡ None → weighed r ≡ w
    rows_are z = weights-all w (none-later (sym drawn_is ∙ z)).1

    plan-is : d ≡ None → plan_after (checked_on b t f) (weighed r) ≡ plan_on b t f w
    plan-is z = ap (plan_after (checked_on b t f)) (rows_are z)

    trades-front : take y.count y.trades ≡ unless_drawn d (trades_in b t) []
    trades-front =
        front-is d y.count y.trades (trades_in b t) no_trades
        (λ z. updates.trades
        ∙ tick-trades b (table_of t) (length log) (table_of f).fault (update-none b lengths (table_of t).fault (table_of f).fault r.fault (sym updates.before ∙ z))) updates.count

    pub log-fits : (y.count ≤ 1024) × (y.first + length (take y.count y.trades) ≤ length log)
    log-fits = (
      count-most d y.count 1024 (trades_in b t) (λ z. (fit-log (sym drawn_is ∙ z)).0) updates.count,
      fits_by d y.first b.exchange.counts.logged log (take y.count y.trades) (trades_in b t) trades-front updates.first (λ z. (fit-log (sym drawn_is ∙ z)).1),
    )

    -- the orders, and the events of the orders, where nothing is drawn
    abbrev orders : List Order
    orders = (plan_on b t f w).orders

    abbrev events_in : Plan → List OrderEvent
    events_in p = events_of (checked_on b t f) p.orders

    few : d ≡ None → (length (events_in (plan_on b t f w)) ≤ 256) × (length (events_in (plan_on b t f w)) ≤ length e)
    few z =
        let l = none-later (sym drawn_is ∙ z) in
        let most = planned-few (money_of (checked_on b t f).portfolio) w in
        let same = length-events (checked_on b t f) orders in
        (omega (arith, same, most, weighed-few w l.1), omega (arith, same, most, l.0))

    sent-by : y.sent ≡ unless_drawn d (length orders) 0
    sent-by =
        updates.sent
        ∙ unless-same d (length (plan_after (checked_on b t f) (weighed r)).orders) (length orders) 0 (λ z. ap (λ (p : Plan). length p.orders) (plan-is z))

    told-by : y.sent ≡ unless_drawn d (length (events_in (plan_on b t f w))) 0
    told-by = sent-by ∙ ap (λ (k : ℕ). unless_drawn d k 0) (sym (length-events (checked_on b t f) orders))

    events-front : take y.sent y.events ≡ unless_drawn d (events_in (plan_on b t f w)) []
    events-front =
        front-is d y.sent y.events (events_in (plan_on b t f w)) no_events
        (λ z. updates.events
        ∙ ap (λ (k : Option Fault). unless_drawn k (over (events_in (plan_after (checked_on b t f) (weighed r))) no_events) no_events) z
        ∙ ap (λ (p : Plan). over (events_in p) no_events) (plan-is z)) told-by

    pub events-fit : (y.sent ≤ 256) × (0 + length (take y.sent y.events) ≤ length e)
    events-fit = (
      count-most d y.sent 256 (events_in (plan_on b t f w)) (λ z. (few z).0) told-by,
      fits-first d e (take y.sent y.events) (events_in (plan_on b t f w)) events-front (λ z. (few z).1),
    )

    pub update-answers : (told : List OrderEvent) (after : List Trade) → told ≡ stored e 0 (take y.sent y.events) → after ≡ stored log y.first (take y.count y.trades) →
        AnswersUpdate b t f w e log (answer_in y) told after
    unfolding update_fault_of update_broker update_total update_sent update_events update_log
    update-answers told after is-told is-after =
        record {
          broker = updates.broker
              ∙ unless-same d (weighed_by (checked_on b t f) (weighed r)) (weighed_by (checked_on b t f) w) b (λ z. ap (weighed_by (checked_on b t f)) (rows_are z))
              ∙ ap (λ (k : Option Fault). unless_drawn k (weighed_by (checked_on b t f) w) b) drawn_is;
          total = updates.total
              ∙ unless-same d (unless_drawn (plan_after (checked_on b t f) (weighed r)).fault (total_value (money_of (checked_on b t f).portfolio)) zero64) (unless_drawn (plan_on b t f w).fault (total_value (money_of (checked_on b t f).portfolio)) zero64) zero64
              (λ z. ap (λ (p : Plan). unless_drawn p.fault (total_value (money_of (checked_on b t f).portfolio)) zero64) (plan-is z))
              ∙ ap (λ (k : Option Fault). unless_drawn k (unless_drawn (plan_on b t f w).fault (total_value (money_of (checked_on b t f).portfolio)) zero64) zero64) drawn_is;
          sent = sent-by ∙ ap (λ (k : Option Fault). unless_drawn k (length orders) 0) drawn_is;
          fault = updates.fault
              ∙ first-same d (plan_after (checked_on b t f) (weighed r)).fault (plan_on b t f w).fault
              (λ z. ap (λ (p : Plan). p.fault) (plan-is z))
              ∙ ap (λ (k : Option Fault). first_drawn k (plan_on b t f w).fault) drawn_is;
          events = is-told ∙ over-by d e (take y.sent y.events) (events_in (plan_on b t f w)) events-front
              ∙ ap (λ (k : Option Fault). unless_drawn k (over (events_in (plan_on b t f w)) e) e) drawn_is;
          log_is = is-after
              ∙ stored-by d y.first b.exchange.counts.logged log (take y.count y.trades) (trades_in b t) trades-front updates.first
              ∙ ap (λ (k : Option Fault). unless_drawn k (log_with b t log) log) drawn_is;
        }
