-- Demand 3, proved: the program meets the ledger over every list of calls, and the ledger has the claim. Assumes nothing.
use Prim.Native.Nat.{ℕ, ◌<◌, ◌≤◌, ◌^◌}
use native.Mathlib.Omega.{arith}
use mathlib.Core.Bool.{true, false, ◌&&◌}
use mathlib.Core.Path.{◌≡◌, refl, ◌∙◌, sym, ap, ap₂, fun_ext}
use mathlib.Core.List.{List, [], ◌∷◌, ◌++◌}
use Rattle.std.specs.declared.option.Option.{Option}
use Rattle.std.specs.declared.option.Option.TheVariants.{None, Some}
use Rattle.std.specs.Prelude.{Ok}
use Rattle.std.specs.Result.{result_unwrap_or}
use Rattle.std.proofs.lemmas.Grind.{common_steps}
use lib.Ieee as Ieee
use lib.Ieee.{Float, nan}
use lib.ListN.{length, take, get_or, replicate, length-replicate, get_or-replicate}
use borrow.Author.Tests.{le-leb}
use Rattle.lists.specs.Lists.{All}
use Rattle.lists.proofs.Over.{take-over}
use Rattle.market.specs.Faults.{◌draws◌, drawn, unless_drawn}
use Rattle.market.specs.declared.fault.Fault.{Fault}
use Rattle.market.specs.declared.fault.Fault.TheVariants.{Unsound}
use Rattle.market.specs.Orders.{zero64}
use Rattle.market.specs.Quotes.{table_tests, table_of}
use Rattle.market.specs.declared.quote.Quote.{Quote}
use Rattle.market.specs.declared.trade.Trade.{Trade}
use Rattle.market.specs.declared.weight.Weight.{Weight}
use Rattle.market.proofs.Tables.{table-fault, table-rows-length}
use Rattle.costs.specs.declared.TradeCosts.{TradeCosts}
use Rattle.costs.specs.declared.BrokerCost.{BrokerCost}
use Rattle.costs.specs.Costs.{is_finite}
use Rattle.costs.specs.Kept.{costs_of}
use Rattle.floats.specs.Lots.{is_lot}
use Rattle.orders.specs.Orders.{Taken, no_orders, erase}
use Rattle.orders.proofs.Shape.{Shape, kept, quiet, acting, erasing}
use Rattle.orders.proofs.Lives as Lives
use Rattle.exchange.specs.State.{fresh, blank_row}
use Rattle.rules.specs.Money.{unless_zero}
use Rattle.rules.specs.Basis.{cost_basis}
use Rattle.portfolio.specs.State.{no_funds, held_at, pending_at}
use Rattle.broker.specs.Build.{build_of, each_finite, builder_tests, fresh_broker, no_broker}
use Rattle.broker.specs.Lender.{log_test, broker_fault}
use Rattle.broker.specs.Lent.{build_for}
use Rattle.market.specs.declared.order.OrderEvent.{OrderEvent}
use Rattle.ledger.specs.Calls.{Call, deposit, withdraw, liquidate, send, send_list, insert, delete, check, update}
use Rattle.ledger.specs.Ledger as Ledger
use Rattle.ledger.specs.Ledger.{Ledger, start, booking, checking, after_weights, check_tests, update_tests}
use Rattle.ledger.specs.Program as Program
use Rattle.ledger.specs.Program.{Held, built}
use Rattle.ledger.specs.Demand.{tradable, deletes, broker_calls, takes_acting, takes, Buildable, Demand3}
use Rattle.ledger.proofs.Fetching.{first_rows}
use Rattle.ledger.proofs.Kept.{Keeps, keeps, keeps-both, keeps-weights, keeps-checking, quiet-deposit, quiet-withdraw, quiet-liquidate, quiet-send, quiet-list, quiet-insert}
use Rattle.ledger.proofs.Standing.{unbroken}
use Rattle.ledger.proofs.Calls.{Meets, step-meets, step-answer, log-test}

-- ---- a list of calls

run-meets : (l₀ : List Trade) → length l₀ < 2 ^ 64 → (s : Held) (L : Ledger) (cs : List Call) → Meets l₀ s L → Meets l₀ (Program.run s cs) (Ledger.run L cs)
unfolding Program.run Ledger.run
run-meets l₀ h s L [] m = m
run-meets l₀ h s L (c ∷ cs) m = run-meets l₀ h (Program.step s c) (Ledger.step L c) cs (step-meets l₀ s L m h c)

run-answers : (l₀ : List Trade) → length l₀ < 2 ^ 64 → (s : Held) (L : Ledger) (cs : List Call) → Meets l₀ s L → Program.answers s cs ≡ Ledger.answers L cs
unfolding Program.answers Ledger.answers
run-answers l₀ h s L [] m = refl
run-answers l₀ h s L (c ∷ cs) m = ap₂ (λ x y. x ∷ y) (step-answer l₀ s L m h c) (run-answers l₀ h (Program.step s c) (Ledger.step L c) cs (step-meets l₀ s L m h c))

module _ (l₀ : List Trade) (h : length l₀ < 2 ^ 64) (s : Held) (L : Ledger) (m : Meets l₀ s L) where
  no-sixteen : drawn (log_test s.broker s.log ∷ []) ≡ None
  unfolding drawn
  no-sixteen = ap (λ x. drawn ((x draws Unsound) ∷ [])) (log-test l₀ s L m h)

  no-sixteen-alone : broker_fault s.broker ≡ None
  unfolding drawn
  no-sixteen-alone = ap (λ x. drawn ((x draws Unsound) ∷ [])) (unbroken s.broker L m.stands)

-- ---- the builder's result

zero-none : unless_zero zero64 ≡ None
unfolding Ieee.of_bits Ieee.eq
zero-none = refl

none-held : (n : ℕ) → held_at (replicate 256 zero64) n ≡ None
none-held n = grind (arith, get_or-replicate 256 n zero64 nan, zero-none)

none-pending : (k n : ℕ) → ◌≡◌ {A = Option Float} (get_or (replicate k None) n None) None
none-pending k n = grind (arith, common_steps)

module _ (costs : TradeCosts) (lot : ℕ) (first : List Quote) (l₀ : List Trade) where
  -- at most 16 costs, each finite
  finite-none : (l : List BrokerCost) → All (λ c. is_finite c ≡ true) l → drawn (each_finite l) ≡ None
  unfolding drawn
  finite-none [] a = refl
  finite-none (c ∷ l) a = grind (arith, a.0, finite-none l a.1)

  -- a lot of 1 to 1,000,000
  lot-sound : (1 ≤ lot) × (lot ≤ 1000000) → is_lot lot ≡ true
  lot-sound h = ap₂ ◌&&◌ (le-leb 1 lot h.0) (le-leb lot 1000000 h.1)

  builder-none : Buildable costs lot first → drawn (builder_tests costs.count lot (costs_of costs)) ≡ None
  unfolding drawn
  builder-none d =
      grind (arith, d.few, lot-sound d.lot-size, finite-none (costs_of costs) d.each-finite)

  -- the builder draws nothing, and answers the fresh broker
  builds : drawn (builder_tests costs.count lot (costs_of costs)) ≡ None → drawn (table_tests 0 first) ≡ None → build_for costs lot first l₀ ≡ Ok (fresh_broker costs lot (table_of first) (length l₀))
  unfolding build_of
  builds c t = rw (c, table-fault first, t) refl

  built-broker : build_for costs lot first l₀ ≡ Ok (fresh_broker costs lot (table_of first) (length l₀)) → (built costs lot first l₀).broker ≡ fresh_broker costs lot (table_of first) (length l₀)
  built-broker e = ap (λ r. result_unwrap_or r no_broker) e

  pub fresh_meets : is_lot lot ≡ true → drawn (table_tests 0 first) ≡ None → Meets l₀ (record { broker = fresh_broker costs lot (table_of first) (length l₀); log = l₀ }) (start (costs_of costs) lot first (length l₀))
  unfolding fresh no_funds start
  fresh_meets s d =
      record {
        stands = record {
          books = record {
            rest-count = refl;
            rest = refl;
            wait-count = refl;
            wait = refl;
            given_is = refl;
            taken_is = refl;
            logged-is = refl;
            room-is = refl;
            size = length-replicate 1024 blank_row;
            fit = record { traded = omega arith; room-left = omega arith; places = omega arith };
          };
          money =
              ap (λ r. record { costs = costs_of costs; lot = lot; latest = r; failed = false; cash = zero64; held = held_at (replicate 256 zero64); pending = pending_at (replicate 256 None) }) (first_rows first d)
              ∙ ap₂ (λ x y. record { costs = costs_of costs; lot = lot; latest = (Rattle.ledger.specs.Ledger.start (costs_of costs) lot first (length l₀)).money.latest; failed = false; cash = zero64; held = x; pending = y })
              (fun_ext none-held) (fun_ext (none-pending 256));
          wide = record { holding = length-replicate 256 zero64; pending = length-replicate {A = Option Float} 256 None };
          rows = table-rows-length first;
          lot = s;
        };
        room-is = refl;
        log = refl;
      }

  built-meets : is_lot lot ≡ true → drawn (table_tests 0 first) ≡ None → build_for costs lot first l₀ ≡ Ok (fresh_broker costs lot (table_of first) (length l₀)) → Meets l₀ (built costs lot first l₀) (start (costs_of costs) lot first (length l₀))
  built-meets s d e = rw (built-broker e) (fresh_meets s d)

-- ---- the ledger has the claim

ledger-last : (L : Ledger) (cs : List Call) (c : Call) → Ledger.run L (cs ++ (c ∷ [])) ≡ Ledger.step (Ledger.run L cs) c
unfolding Ledger.run
ledger-last L [] c = refl
ledger-last L (d ∷ cs) c = ledger-last (Ledger.step L d) cs c

-- a call that keeps the booked orders and the trades
quiet-shape : (L M : Ledger) (c : Call) (new : List Taken) → ((n : ℕ) → deletes n c ≡ false) → tradable c ≡ None → Keeps L new M → Shape broker_calls L.orders c new M.orders
quiet-shape L M c new d t k = quiet broker_calls L.orders M.orders c new d t (record { waiting = k.waiting; booked = k.booked; trades = k.trades })

-- a check that acts
acting-shape : (L M : Ledger) (c : Call) (new : List Taken) (t f : List Quote) → ((n : ℕ) → deletes n c ≡ false) → tradable c ≡ Some t → Keeps (booking L t f) new M →
    Shape broker_calls L.orders c new M.orders
acting-shape L M c new t f d s k = acting broker_calls L.orders M.orders c new t d s (record { waiting = k.waiting; booked = k.booked; trades = k.trades })

check-shape : (L : Ledger) (t f : List Quote) (d : Option Fault) → drawn (check_tests t f) ≡ d →
    Shape broker_calls L.orders (check t f) (unless_drawn d (takes_acting L (check t f)) []) (unless_drawn d (checking L t f) L).orders
check-shape L t f None e = acting-shape L (checking L t f) (check t f) _ t f (λ k. refl) (ap (λ k. unless_drawn k (Some t) None) e) (keeps-checking L t f)
check-shape L t f (Some x) e = quiet-shape L L (check t f) [] (λ k. refl) (ap (λ k. unless_drawn k (Some t) None) e) (keeps L)

update-shape : (L : Ledger) (t f : List Quote) (w : List Weight) (e : List OrderEvent) (d : Option Fault) → drawn (update_tests t f w (length e)) ≡ d →
    Shape broker_calls L.orders (update t f w e) (unless_drawn d (takes_acting L (update t f w e)) []) (unless_drawn d (after_weights (checking L t f) w) L).orders
update-shape L t f w e None d =
    acting-shape L (after_weights (checking L t f) w) (update t f w e) _ t f (λ k. refl) (ap (λ k. unless_drawn k (Some t) None) d) (keeps-both (keeps-checking L t f) (keeps-weights (checking L t f) w))
update-shape L t f w e (Some x) d = quiet-shape L L (update t f w e) [] (λ k. refl) (ap (λ k. unless_drawn k (Some t) None) d) (keeps L)

step-shape : (L : Ledger) (c : Call) → Shape broker_calls L.orders c (takes L c) (Ledger.step L c).orders
step-shape L (deposit a) = quiet-shape L _ (deposit a) _ (λ n. refl) refl (quiet-deposit L a)
step-shape L (withdraw a) = quiet-shape L _ (withdraw a) _ (λ n. refl) refl (quiet-withdraw L a)
step-shape L (liquidate a) = quiet-shape L _ (liquidate a) _ (λ n. refl) refl (quiet-liquidate L a)
step-shape L (send o) = quiet-shape L _ (send o) _ (λ n. refl) refl (quiet-send L o)
step-shape L (send_list l e) = quiet-shape L _ (send_list l e) _ (λ n. refl) refl (quiet-list L l e)
step-shape L (insert o) = quiet-shape L _ (insert o) _ (λ n. refl) refl (quiet-insert L o)
step-shape L (delete n) = unfold Ledger.step Ledger.call_tests Ledger.acting drawn in erasing broker_calls L.orders (erase n L.orders) (delete n) [] n (λ k. refl) refl (kept (erase n L.orders))
step-shape L (check t f) = unfold Ledger.step Ledger.call_tests Ledger.acting in check-shape L t f (drawn (check_tests t f)) refl
step-shape L (update t f w e) = unfold Ledger.step Ledger.call_tests Ledger.acting in update-shape L t f w e (drawn (update_tests t f w (length e))) refl

apart : (n : ℕ) (c : Call) → deletes n c ≡ true → tradable c ≡ None
apart n (deposit a) e = refl
apart n (withdraw a) e = refl
apart n (liquidate a) e = refl
apart n (send o) e = refl
apart n (send_list l k) e = refl
apart n (insert o) e = refl
apart n (delete m) e = refl
apart n (check t f) e = grind arith
apart n (update t f w k) e = grind arith

ledger-runs : (L : Ledger) → L.orders ≡ no_orders → Lives.Runs broker_calls (λ past c. takes (Ledger.run L past) c) (λ cs. (Ledger.run L cs).orders)
unfolding Ledger.run
ledger-runs L z =
    record {
      apart = record { apart = apart };
      starts = z;
      shape = λ past c.
          rw (ledger-last L past c) (step-shape (Ledger.run L past) c);
    }

-- ---- demand 3: any builder's arguments that 01's conditions hold of, a log of any length that a slice has, every list of calls, refused ones included

pub demand-3 : (costs : TradeCosts) (lot : ℕ) (first : List Quote) (l₀ : List Trade) → Buildable costs lot first → length l₀ < 2 ^ 64 → (cs : List Call) → Demand3 costs lot first l₀ cs
unfolding start
demand-3 costs lot first l₀ d h cs =
    let e = builds costs lot first l₀ (builder-none costs lot first l₀ d) d.table in
    let L = start (costs_of costs) lot first (length l₀) in
    let s = built-meets costs lot first l₀ (lot-sound costs lot first l₀ d.lot-size) d.table e in
    let m = run-meets l₀ h (built costs lot first l₀) L cs s in
    let count = (Program.run (built costs lot first l₀) cs).broker.exchange.counts.logged in
    let logged = ap (take count) m.log ∙ take-over (Ledger.run L cs).orders.trades l₀ count (sym m.stands.books.logged-is) in
    record {
      begun = e ∙ ap Ok (sym (built-broker costs lot first l₀ e));
      lived = Lives.lived broker_calls (λ past c. takes (Ledger.run L past) c) (λ xs. (Ledger.run L xs).orders) (ledger-runs L refl) cs;
      answered = run-answers l₀ h (built costs lot first l₀) L cs s;
      compared = record {
        log = m.log;
        logged = logged;
        sound = no-sixteen l₀ h (Program.run (built costs lot first l₀) cs) (Ledger.run L cs) m;
        sound-alone = no-sixteen-alone l₀ h (Program.run (built costs lot first l₀) cs) (Ledger.run L cs) m;
        resting = m.stands.books.rest;
        waiting = m.stands.books.wait;
        money = m.stands.money;
        basis = λ n. ap (λ l. cost_basis l n) logged;
      };
    }
