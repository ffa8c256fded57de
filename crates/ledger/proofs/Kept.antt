-- What the ledger's calls leave alone: the log's length; and every call but a deletion and a check leaves the booked orders and the trades, and appends what it takes to the waiting ones. Assumes nothing.
use mathlib.Core.Bool.{Bool, true, false, cond}
use mathlib.Core.Path.{◌≡◌, refl, ◌∙◌, sym, ap, subst}
use mathlib.Core.List.{List, [], ◌∷◌, ◌++◌, append-nil, append_assoc}
use Rattle.std.specs.declared.option.Option.{Option}
use Rattle.std.specs.declared.option.Option.TheVariants.{None, Some}
use lib.Ieee.{Float}
use Rattle.lists.specs.Lists.{given}
use Rattle.market.specs.Faults.{drawn, unless_drawn}
use Rattle.market.specs.declared.fault.Fault.{Fault}
use Rattle.market.specs.Orders.{zero64}
use Rattle.market.specs.declared.order.Order.{Order}
use Rattle.market.specs.declared.quote.Quote.{Quote}
use Rattle.market.specs.declared.weight.Weight.{Weight}
use Rattle.orders.specs.Orders.{Taken, plain, take_on, fills_of}
use Rattle.rules.specs.Amounts.{below}
use Rattle.rules.specs.Liquidation.{sales_for}
use Rattle.rules.specs.Weights.{plan_of}
use Rattle.market.specs.declared.order.OrderEvent.{OrderEvent}
use Rattle.ledger.specs.Calls.{Call, deposit, withdraw, liquidate, send, send_list, insert}
use Rattle.ledger.specs.Ledger.{Ledger, send_event, send_events, sending, sending_all, insert_event, inserting, liquidating, shortfall, rescuing, booking, checking, after_weights, call_tests, acting, step}
use Rattle.ledger.specs.Demand.{sent_by, takes_selling, takes_short, takes_acting, takes}

-- the log's length, the booked orders and the trades are as they were; the orders `new` wait behind the others
pub record Keeps (L : Ledger) (new : List Taken) (M : Ledger) : Type 0 where
  pub room : M.room ≡ L.room
  pub waiting : M.orders.waiting ≡ L.orders.waiting ++ new
  pub booked : M.orders.booked ≡ L.orders.booked
  pub trades : M.orders.trades ≡ L.orders.trades

-- no order is taken
pub keeps-none : {L M : Ledger} → M.room ≡ L.room → M.orders ≡ L.orders → Keeps L [] M
keeps-none {L} r o = record { room = r; waiting = ap (λ b. b.waiting) o ∙ sym (append-nil L.orders.waiting); booked = ap (λ b. b.booked) o; trades = ap (λ b. b.trades) o }

pub keeps : (L : Ledger) → Keeps L [] L
keeps L = keeps-none refl refl

pub keeps-both : {L M N : Ledger} {a b : List Taken} → Keeps L a M → Keeps M b N → Keeps L (a ++ b) N
keeps-both {L} {a = a} {b = b} p q =
    record {
      room = q.room ∙ p.room;
      waiting = q.waiting ∙ ap (λ l. l ++ b) p.waiting ∙ append_assoc L.orders.waiting a b;
      booked = q.booked ∙ p.booked;
      trades = q.trades ∙ p.trades;
    }

pub keeps-unless : (d : Option Fault) (L M : Ledger) (new : List Taken) → Keeps L new M → Keeps L (unless_drawn d new []) (unless_drawn d M L)
keeps-unless None L M new k = k
keeps-unless (Some f) L M new k = keeps L

-- an order that is taken
keeps-taking : (L M : Ledger) (o : Order) → M.room ≡ L.room → M.orders ≡ take_on (plain o) L.orders → Keeps L (plain o ∷ []) M
keeps-taking L M o r e = record { room = r; waiting = ap (λ b. b.waiting) e; booked = ap (λ b. b.booked) e; trades = ap (λ b. b.trades) e }

pub keeps-sending : (L : Ledger) (o : Order) → Keeps L (unless_drawn (send_event L o).fault (plain o ∷ []) []) (sending L o)
unfolding sending
keeps-sending L o = keeps-unless (send_event L o).fault L _ (plain o ∷ []) (keeps-taking L _ o refl refl)

pub keeps-sending-all : (L : Ledger) (l : List Order) → Keeps L (sent_by L l) (sending_all L l)
unfolding send_events send_event
keeps-sending-all L [] = keeps L
keeps-sending-all L (o ∷ l) = keeps-both (keeps-sending L o) (keeps-sending-all (sending L o) l)

keeps-inserting : (L : Ledger) (o : Order) → Keeps L (unless_drawn (insert_event L o).fault (plain o ∷ []) []) (inserting L o)
unfolding inserting
keeps-inserting L o = keeps-unless (insert_event L o).fault L _ (plain o ∷ []) (keeps-taking L _ o refl refl)

keeps_given : (L M : Ledger) (p : Option (List Order)) → Keeps L [] M → Keeps L (given p [] (sent_by L)) (given p M (sending_all L))
keeps_given L M None k = k
keeps_given L M (Some l) k = keeps-sending-all L l

pub keeps-liquidating : (L : Ledger) (a : Float) → Keeps L (takes_selling L a) (liquidating L a)
unfolding liquidating
keeps-liquidating L a = keeps_given L _ (sales_for L.money a) (keeps-none refl refl)

keeps-cond : (b : Bool) (L M : Ledger) (new : List Taken) → Keeps L new M → Keeps L (cond b new []) (cond b M L)
keeps-cond true L M new k = k
keeps-cond false L M new k = keeps L

keeps-rescuing : (L : Ledger) → Keeps L (takes_short L) (rescuing L)
unfolding rescuing
keeps-rescuing L =
    let k = keeps-liquidating L (shortfall L) in
    keeps-cond (below L.money.cash zero64) L _ (takes_selling L (shortfall L)) (record { room = k.room; waiting = k.waiting; booked = k.booked; trades = k.trades })

pub keeps-weights : (L : Ledger) (w : List Weight) → Keeps L (sent_by L (plan_of L.money w).orders) (after_weights L w)
keeps-weights L w = keeps-sending-all L (plan_of L.money w).orders

-- a check books and trades as a tick does, and no more; a shortfall's orders wait
pub keeps-checking : (L : Ledger) (t f : List Quote) → Keeps (booking L t f) (takes_short (booking L t f)) (checking L t f)
unfolding checking
keeps-checking L t f = keeps-rescuing (booking L t f)

pub checking-room : (L : Ledger) (t f : List Quote) → (checking L t f).room ≡ L.room
checking-room L t f = (keeps-checking L t f).room

pub checking-trades : (L : Ledger) (t f : List Quote) → (checking L t f).orders.trades ≡ L.orders.trades ++ fills_of t L.orders.booked
checking-trades L t f = (keeps-checking L t f).trades

pub weigh-room : (L : Ledger) (w : List Weight) → (after_weights L w).room ≡ L.room
weigh-room L w = (keeps-weights L w).room

pub weigh-trades : (L : Ledger) (w : List Weight) → (after_weights L w).orders.trades ≡ L.orders.trades
weigh-trades L w = (keeps-weights L w).trades

-- ---- the calls that book and trade nothing, and delete nothing

module _ (L : Ledger) where
  quiet_by : (c : Call) → Keeps L (takes_acting L c) (acting L c) → Keeps L (takes L c) (step L c)
  unfolding step
  quiet_by c k = keeps-unless (drawn (call_tests L c)) L (acting L c) (takes_acting L c) k

  one : {M : Ledger} {new : List Taken} → Keeps L new M → Keeps L (new ++ []) M
  one {M} {new} k = subst (λ l. Keeps L l M) (sym (append-nil new)) k

  pub quiet-deposit : (a : Float) → Keeps L (takes L (deposit a)) (step L (deposit a))
  quiet-deposit a = quiet_by (deposit a) (unfold acting in keeps-none refl refl)

  pub quiet-withdraw : (a : Float) → Keeps L (takes L (withdraw a)) (step L (withdraw a))
  quiet-withdraw a = quiet_by (withdraw a) (unfold acting in keeps-none refl refl)

  pub quiet-liquidate : (a : Float) → Keeps L (takes L (liquidate a)) (step L (liquidate a))
  quiet-liquidate a = quiet_by (liquidate a) (unfold acting in keeps-liquidating L a)

  pub quiet-send : (o : Order) → Keeps L (takes L (send o)) (step L (send o))
  quiet-send o = quiet_by (send o) (unfold acting send_event in one (keeps-sending L o))

  pub quiet-list : (l : List Order) (e : List OrderEvent) → Keeps L (takes L (send_list l e)) (step L (send_list l e))
  quiet-list l e = quiet_by (send_list l e) (unfold acting in keeps-sending-all L l)

  pub quiet-insert : (o : Order) → Keeps L (takes L (insert o)) (step L (insert o))
  quiet-insert o = quiet_by (insert o) (unfold acting insert_event in one (keeps-inserting L o))
