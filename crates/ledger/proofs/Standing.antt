-- A broker stands for a ledger: the relation, and that sends, insertions, deletions, cash and liquidations keep it and answer alike. Assumes nothing.
use Prim.Native.Nat.{ℕ, ◌+◌, ◌<◌}
use native.Mathlib.Omega.{arith}
use mathlib.Core.Bool.{Bool, true, false, not, cond, ◌||◌}
use mathlib.Core.Path.{◌≡◌, refl, ◌∙◌, sym, ap, ap₂, subst}
use mathlib.Core.List.{List, [], ◌∷◌, ◌++◌}
use Rattle.std.specs.declared.option.Option.{Option}
use Rattle.std.specs.declared.option.Option.TheVariants.{None, Some}
use lib.Ieee.{Float}
use lib.ListN.{length}
use Rattle.lists.specs.Lists.{given}
use Rattle.market.specs.Faults.{drawn, unless_drawn}
use Rattle.market.specs.declared.fault.Fault.{Fault}
use Rattle.market.specs.Orders.{event_of, order_tests}
use Rattle.market.specs.declared.order.Order.{Order}
use Rattle.market.proofs.Faults.{append-none}
use Rattle.orders.specs.Orders.{plain, resting_in, take_on, erase}
use Rattle.floats.specs.Lots.{is_lot}
use Rattle.exchange.specs.State.{broken_of, room_of}
use Rattle.exchange.specs.Insert as Exchange
use Rattle.exchange.specs.Insert.{joined, insert_tests}
use Rattle.exchange.specs.Delete as Deletion
use Rattle.exchange.proofs.Counting.{sound-not-broken}
use Rattle.exchange.proofs.Books.{Books, books-take, books-delete}
use Rattle.rules.specs.Amounts.{minus, below}
use Rattle.rules.specs.Money.{expected, with_cash}
use Rattle.rules.specs.Sends.{send_tests}
use Rattle.rules.specs.Liquidation.{sales_for, debited_by}
use Rattle.portfolio.specs.State.{money_of}
use Rattle.broker.specs.Send as Send
use Rattle.broker.specs.Lender.{broken}
use Rattle.broker.specs.Send.{event_for, taken_by, sent_one, sent_all, events_of}
use Rattle.broker.specs.Cash as Cash
use Rattle.portfolio.specs.Liquidate as Sales
use Rattle.broker.specs.Liquidate.{liquidated_by, sales_of, failing}
use Rattle.broker.specs.declared.state.UistBroker.{UistBroker}
use Rattle.ledger.specs.Ledger as Ledger
use Rattle.ledger.specs.Ledger.{Ledger, room_tests, send_event, sending, sending_all, send_events, insert_event, inserting, liquidating, with_money, with_orders}
use Rattle.ledger.proofs.Views.{Wide, expecting-view, expecting-wide}

pub record Stands (b : UistBroker) (L : Ledger) : Type 0 where
  pub books : Books b.exchange L.room L.orders
  pub money : money_of b.portfolio ≡ L.money
  pub wide : Wide b.portfolio.funds
  pub rows : length b.portfolio.latest.rows ≡ 256
  pub lot : is_lot b.portfolio.lot ≡ true

module _ (b : UistBroker) (L : Ledger) (m : Stands b L) where
  -- Unsound is not drawn, neither by the exchange nor by the broker
  counts-hold : broken_of b.exchange.counts ≡ false
  counts-hold =
      let r = m.books in
      sound-not-broken {c = b.exchange.counts}
      (record {
        together = omega (arith, r.rest-count, r.wait-count, r.fit.places);
        bounded = omega (arith, r.taken_is, r.room-is, r.fit.room-left);
        numbers = omega (arith, r.given_is, r.taken_is);
        logs = omega (arith, r.logged-is, r.rest-count, r.wait-count, r.taken_is, r.fit.traded);
      })

  pub unbroken : broken b ≡ false
  unbroken = ap₂ (λ x y. x || not y) counts-hold m.lot

  -- the tests of room read the same
  rooms : room_of b.exchange.counts ≡ room_tests L
  rooms = let r = m.books in rw (r.taken_is, r.room-is, r.rest-count, r.wait-count)

  -- an order that draws neither LogFull nor BookFull has room
  room-left : drawn (room_tests L) ≡ None → (length L.orders.booked + length L.orders.waiting < L.room) × (resting_in L.orders.booked + length L.orders.waiting < 1024)
  unfolding drawn
  room-left e = (grind (arith, m.books.fit.room-left), grind (arith, m.books.fit.places))

  -- ---- a send

  pub event-same : (o : Order) → event_for b o ≡ send_event L o
  unfolding event_for send_event
  event-same o = ap₂ (λ x y. event_of o (drawn (send_tests x y o))) m.money rooms

  send-facts : (o : Order) → drawn (send_tests L.money (room_tests L) o) ≡ None → (o.symbol < 256) × (drawn (room_tests L) ≡ None)
  unfolding drawn
  send-facts o e = (grind arith, grind arith)

  taken-by : (o : Order) (d : Option Fault) → drawn (send_tests L.money (room_tests L) o) ≡ d →
      Stands (unless_drawn d (taken_by b o) b) (unless_drawn d (record { room = L.room; money = expected o L.money; orders = take_on (plain o) L.orders }) L)
  taken-by o (Some f) e = m
  taken-by o None e =
      let s = send-facts o e in
      let h = room-left s.1 in
      record {
        books = books-take b.exchange L.room L.orders m.books o h.0 h.1;
        money = expecting-view b.portfolio o s.0 m.wide ∙ ap (expected o) m.money;
        wide = expecting-wide b.portfolio.funds o m.wide;
        rows = m.rows;
        lot = m.lot;
      }

  pub send-stands : (o : Order) → Stands (sent_one b o) (sending L o)
  unfolding sent_one sending
  send-stands o = rw (event-same o) (unfold send_event in taken-by o (drawn (send_tests L.money (room_tests L) o)) refl)

  -- ---- a direct insertion

  insert-number : (o : Order) → drawn (insert_tests b.exchange.counts o) ≡ drawn (order_tests o ++ room_tests L)
  unfolding drawn
  insert-number o = rw (counts-hold, rooms)

  inserted_by : (o : Order) (d : Option Fault) → drawn (order_tests o ++ room_tests L) ≡ d →
      Stands (record { exchange = unless_drawn d (joined b.exchange o) b.exchange; portfolio = b.portfolio }) (unless_drawn d (with_orders L (take_on (plain o) L.orders)) L)
  inserted_by o (Some f) e = m
  inserted_by o None e =
      let h = room-left (append-none (order_tests o) (room_tests L) e).1 in
      record { books = books-take b.exchange L.room L.orders m.books o h.0 h.1; money = m.money; wide = m.wide; rows = m.rows; lot = m.lot }

  pub insert-stands : (o : Order) → Stands (Send.insert_of b o).broker (inserting L o)
  unfolding Send.insert_of Exchange.insert_of inserting insert_event
  insert-stands o =
      rw (unbroken, insert-number o) (inserted_by o (drawn (order_tests o ++ room_tests L)) refl)

  pub insert-event : (o : Order) → (Send.insert_of b o).event ≡ insert_event L o
  unfolding Send.insert_of Exchange.insert_of insert_event
  insert-event o = rw unbroken (ap (event_of o) (insert-number o))

  -- ---- a deletion

  pub delete-stands : (n : ℕ) → Stands (Send.delete_of b n).state (with_orders L (erase n L.orders))
  unfolding Send.delete_of Deletion.delete_of drawn
  delete-stands n =
      rw (unbroken, counts-hold) (record { books = books-delete b.exchange L.room L.orders m.books n; money = m.money; wide = m.wide; rows = m.rows; lot = m.lot })

  pub delete-number : (n : ℕ) → (Send.delete_of b n).fault ≡ None
  unfolding Send.delete_of Deletion.delete_of drawn
  delete-number n = rw (unbroken, counts-hold)

  -- ---- cash

  pub cash-stands : (x : Float) → Stands (Cash.with_cash b x) (with_money L (with_cash L.money x))
  cash-stands x =
      record {
        books = m.books;
        money = ap (λ n. with_cash n x) m.money;
        wide = record { holding = m.wide.holding; pending = m.wide.pending };
        rows = m.rows;
        lot = m.lot;
      }

  pub cash-same : Cash.cash_of b ≡ L.money.cash
  cash-same = ap (λ n. n.cash) m.money

-- ---- a list of sends

pub sends-stand : (b : UistBroker) (L : Ledger) (l : List Order) → Stands b L → Stands (sent_all b l) (sending_all L l)
sends-stand b L [] m = m
sends-stand b L (o ∷ l) m = sends-stand (sent_one b o) (sending L o) l (send-stands b L m o)

pub events-same : (b : UistBroker) (L : Ledger) (l : List Order) → Stands b L → events_of b l ≡ send_events L l
unfolding events_of send_events
events-same b L [] m = refl
events-same b L (o ∷ l) m = ap₂ (λ x y. x ∷ y) (event-same b L m o) (events-same (sent_one b o) (sending L o) l (send-stands b L m o))

-- ---- a liquidation

sales-same : (b : UistBroker) (L : Ledger) → Stands b L → (a : Float) → sales_of b a ≡ sales_for L.money a
sales-same b L m a = ap (λ n. sales_for n a) m.money

debited-by : (b : UistBroker) (L : Ledger) → Stands b L → (a : Float) (t : Bool) → Stands (cond t b (Cash.with_cash b (minus (Cash.cash_of b) a))) (with_money L (cond t L.money (with_cash L.money (minus L.money.cash a))))
debited-by b L m a true = m
debited-by b L m a false = subst (λ x. Stands (Cash.with_cash b (minus x a)) (with_money L (with_cash L.money (minus L.money.cash a)))) (sym (cash-same b L m)) (cash-stands b L m (minus L.money.cash a))

failing-stands : (b : UistBroker) (L : Ledger) → Stands b L → (a : Float) → Stands (failing b a) (with_money L (debited_by a L.money))
unfolding debited_by
failing-stands b L m a =
    subst (λ x. Stands (cond (below x a) b (Cash.with_cash b (minus (Cash.cash_of b) a))) (with_money L (cond (below L.money.cash a) L.money (with_cash L.money (minus L.money.cash a)))))
    (sym (cash-same b L m)) (debited-by b L m a (below L.money.cash a))

liquidate-by : (b : UistBroker) (L : Ledger) → Stands b L → (a : Float) (p : Option (List Order)) → Stands (given p (failing b a) (sent_all b)) (given p (with_money L (debited_by a L.money)) (sending_all L))
liquidate-by b L m a None = failing-stands b L m a
liquidate-by b L m a (Some l) = sends-stand b L l m

pub liquidate-stands : (b : UistBroker) (L : Ledger) → Stands b L → (a : Float) → Stands (liquidated_by b a) (liquidating L a)
unfolding liquidated_by liquidating
liquidate-stands b L m a = rw (sales-same b L m a) (liquidate-by b L m a (sales_for L.money a))

pub success-same : (b : UistBroker) (L : Ledger) → Stands b L → (a : Float) → Sales.succeeds (sales_of b a) ≡ Ledger.succeeds L a
success-same b L m a = ap Sales.succeeds (sales-same b L m a)
