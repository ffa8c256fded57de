-- The theorem over lists of an exchange's calls: the program's definitions meet the ledger's, call by call, and the ledger has the claim.
-- Assumes nothing.
use Rattle.std.proofs.Common.{◌≡◌, ℕ, ◌+◌, ◌^◌, ◌<◌, true, false, not, ◌||◌, eqb, List, [], ◌∷◌, ◌++◌, length, take, sym, refl, ap, ◌∙◌, subst, ap₂, arith, eq-eqb}
use Rattle.std.specs.declared.option.Option.{Option}
use Rattle.std.specs.declared.option.Option.TheVariants.{None, Some}
use lib.ListN.{length-replicate}
use borrow.Author.Tests.{eqb-false}
use Rattle.lists.specs.Lists.{over, stored}
use Rattle.lists.proofs.Over.{length_over, take-over, stored-over}
use Rattle.market.specs.Faults.{◌draws◌, drawn, unless_drawn}
use Rattle.market.specs.declared.fault.Fault.{Fault}
use Rattle.market.specs.declared.fault.Fault.TheVariants.{LogFull, BookFull, Unsound}
use Rattle.market.specs.Orders.{order_tests}
use Rattle.market.specs.Quotes.{table_tests, row_for}
use Rattle.market.specs.declared.order.Order.{Order}
use Rattle.market.specs.declared.quote.Quote.{Quote}
use Rattle.market.specs.declared.trade.Trade.{Trade}
use Rattle.market.proofs.Faults.{append-none, none-drawn}
use Rattle.orders.specs.Orders as Ledger
use Rattle.orders.specs.Orders.{Taken, plain, Orders, no_orders, resting_in, book_width, room_tests, take_on, erase, fills_of}
use Rattle.orders.proofs.Shape.{Shape, Kept, kept, quiet, acting, erasing}
use Rattle.orders.proofs.Lives as Lives
use Rattle.exchange.specs.State.{fresh, blank_row, broken_of, log_test, resting_of}
use Rattle.exchange.specs.Insert.{insert_tests, joined, insert_of}
use Rattle.exchange.specs.Delete.{delete_of}
use Rattle.exchange.specs.Tick.{trades_of, ticked}
use Rattle.exchange.specs.Lent.{lent_tests, lent_tick, lent_log}
use Rattle.exchange.specs.Runs.{Call, insert, delete, tick, Held, opened, step, answer, run, answers, take_tests, ledger_step, ledger_answer, takes_in, ledger_run, ledger_answers, tradable, deletes, exchange_calls, ledger_after, takes_after, ExchangeRun}
use Rattle.exchange.proofs.Counting.{sound-not-broken}
use Rattle.exchange.proofs.Books.{Books, books-take, books-delete, books-trades, books-tick}

-- ---- one call

-- the program's state stands for the ledger's orders, and its log has their trades, then the old rows
pub record Meets (l₀ : List Trade) (s : Held) (b : Orders) : Type 0 where
  pub books : Books s.exchange (length l₀) b
  pub log : s.log ≡ over b.trades l₀

module _ (l₀ : List Trade) (s : Held) (b : Orders) (m : Meets l₀ s b) where
  -- 16 is not drawn
  unbroken : broken_of s.exchange.counts ≡ false
  unbroken =
      let r = m.books in
      sound-not-broken {c = s.exchange.counts}
      (record {
        together = omega (arith, r.rest-count, r.wait-count, r.fit.places);
        bounded = omega (arith, r.taken_is, r.room-is, r.fit.room-left);
        numbers = omega (arith, r.given_is, r.taken_is);
        logs = omega (arith, r.logged-is, r.rest-count, r.wait-count, r.taken_is, r.fit.traded);
      })

  -- ---- insertion

  insert-fault : (o : Order) → drawn (insert_tests s.exchange.counts o) ≡ drawn (take_tests (length l₀) b o)
  unfolding drawn
  insert-fault o =
      let r = m.books in
      let c = s.exchange.counts in
      ap (λ t. drawn ((t draws Unsound) ∷ (order_tests o ++ room_tests c.room book_width c.taken (c.resting + c.waits)))) unbroken
      ∙ ap₂ (λ x y. drawn (order_tests o ++ (x draws LogFull) ∷ (y draws BookFull) ∷ []))
      (ap₂ eqb r.taken_is r.room-is)
      (ap₂ (λ x y. eqb (x + y) book_width) r.rest-count r.wait-count)

  taken-by : (o : Order) (n : Option Fault) → drawn (take_tests (length l₀) b o) ≡ n →
      Meets l₀ (record { exchange = unless_drawn n (joined s.exchange o) s.exchange; log = s.log }) (unless_drawn n (take_on (plain o) b) b)
  taken-by o (Some n) e = m
  taken-by o None e =
      let room-none = (append-none (order_tests o) _ e).1 in
      let ten = none-drawn (eqb (length b.booked + length b.waiting) (length l₀)) LogFull _ room-none in
      let eleven = none-drawn (eqb (resting_in b.booked + length b.waiting) book_width) BookFull [] ten.1 in
      let p = eqb-false (length b.booked + length b.waiting) (length l₀) ten.0 in
      let q = eqb-false (resting_in b.booked + length b.waiting) book_width eleven.0 in
      record {
        books = books-take s.exchange (length l₀) b m.books o (omega (arith, m.books.fit.room-left, p)) (omega (arith, m.books.fit.places, q));
        log = m.log;
      }

  insert-meets : (o : Order) → Meets l₀ (step s (insert o)) (ledger_step (length l₀) b (insert o))
  unfolding insert_of
  insert-meets o =
      let n = drawn (take_tests (length l₀) b o) in
      subst (λ k. Meets l₀ (record { exchange = unless_drawn k (joined s.exchange o) s.exchange; log = s.log }) (unless_drawn n (take_on (plain o) b) b))
      (sym (insert-fault o)) (taken-by o n refl)

  insert-answer : (o : Order) → answer s (insert o) ≡ ledger_answer (length l₀) b (insert o)
  unfolding insert_of
  insert-answer o = ap (λ n. record { traded = 0; fault = n }) (insert-fault o)

  -- ---- deletion

  delete-meets : (n : ℕ) → Meets l₀ (step s (delete n)) (ledger_step (length l₀) b (delete n))
  unfolding delete_of drawn
  delete-meets n = rw unbroken (record { books = books-delete s.exchange (length l₀) b m.books n; log = m.log })

  delete-answer : (n : ℕ) → answer s (delete n) ≡ ledger_answer (length l₀) b (delete n)
  unfolding delete_of drawn
  delete-answer n = rw unbroken

  -- ---- tick

  log-length : length s.log ≡ length l₀
  log-length = ap length m.log ∙ length_over b.trades l₀ (omega (arith, m.books.fit.traded, m.books.fit.room-left))

  pub no-sixteen : drawn (log_test s.exchange.counts (length s.log) ∷ []) ≡ None
  unfolding drawn
  no-sixteen = ap₂ (λ x y. drawn (((not x || y) draws Unsound) ∷ [])) (eq-eqb _ _ (log-length ∙ sym m.books.room-is)) unbroken

  tick-fault : (rows : List Quote) → drawn (lent_tests s.exchange rows s.log) ≡ drawn (table_tests 0 rows)
  unfolding drawn
  tick-fault rows =
      ap₂ (λ x y. drawn (((not x || y) draws Unsound) ∷ table_tests 0 rows)) (eq-eqb _ _ (log-length ∙ sym m.books.room-is)) unbroken

  ticked-by : (rows : List Quote) → length l₀ < 2 ^ 64 → (n : Option Fault) →
      Meets l₀
      (record {
        exchange = unless_drawn n (ticked s.exchange (row_for rows)) s.exchange;
        log = unless_drawn n (stored s.log s.exchange.counts.logged (trades_of (row_for rows) (resting_of s.exchange))) s.log;
      })
      (unless_drawn n (Ledger.tick rows b) b)
  ticked-by rows h (Some n) = m
  ticked-by rows h None =
      record {
        books = books-tick s.exchange (length l₀) b m.books rows h;
        log =
            ap₂ (λ l t. stored l s.exchange.counts.logged t) m.log (books-trades s.exchange (length l₀) b m.books rows)
            ∙ stored-over b.trades (fills_of rows b.booked) l₀ s.exchange.counts.logged m.books.logged-is;
      }

  tick-meets : (rows : List Quote) → length l₀ < 2 ^ 64 → Meets l₀ (step s (tick rows)) (ledger_step (length l₀) b (tick rows))
  unfolding lent_tick lent_log
  tick-meets rows h = rw (tick-fault rows) (ticked-by rows h (drawn (table_tests 0 rows)))

  tick-answer : (rows : List Quote) → answer s (tick rows) ≡ ledger_answer (length l₀) b (tick rows)
  unfolding lent_tick
  tick-answer rows =
      ap₂ (λ n t. record { traded = unless_drawn n (length t) 0; fault = n }) (tick-fault rows) (books-trades s.exchange (length l₀) b m.books rows)

  -- ---- any call

  step-meets : length l₀ < 2 ^ 64 → (c : Call) → Meets l₀ (step s c) (ledger_step (length l₀) b c)
  step-meets h (insert o) = insert-meets o
  step-meets h (delete n) = delete-meets n
  step-meets h (tick rows) = tick-meets rows h

  step-answer : (c : Call) → answer s c ≡ ledger_answer (length l₀) b c
  step-answer (insert o) = insert-answer o
  step-answer (delete n) = delete-answer n
  step-answer (tick rows) = tick-answer rows

-- ---- a list of calls

run-meets : (l₀ : List Trade) → length l₀ < 2 ^ 64 → (s : Held) (b : Orders) (cs : List Call) → Meets l₀ s b → Meets l₀ (run s cs) (ledger_run (length l₀) b cs)
run-meets l₀ h s b [] m = m
run-meets l₀ h s b (c ∷ cs) m = run-meets l₀ h (step s c) (ledger_step (length l₀) b c) cs (step-meets l₀ s b m h c)

run-answers : (l₀ : List Trade) → length l₀ < 2 ^ 64 → (s : Held) (b : Orders) (cs : List Call) → Meets l₀ s b → answers s cs ≡ ledger_answers (length l₀) b cs
run-answers l₀ h s b [] m = refl
run-answers l₀ h s b (c ∷ cs) m = ap₂ (λ x y. x ∷ y) (step-answer l₀ s b m c) (run-answers l₀ h (step s c) (ledger_step (length l₀) b c) cs (step-meets l₀ s b m h c))

opened-meets : (l₀ : List Trade) → Meets l₀ (opened l₀) no_orders
unfolding fresh
opened-meets l₀ =
    record {
      books = record {
        rest-count = refl;
        rest = refl;
        wait-count = refl;
        wait = refl;
        given_is = refl;
        taken_is = refl;
        logged-is = refl;
        room-is = refl;
        size = length-replicate 1024 blank_row;
        fit = record { traded = omega arith; room-left = omega arith; places = omega arith };
      };
      log = refl;
    }

-- ---- the ledger has the claim

ledger-last : (room : ℕ) (b : Orders) (cs : List Call) (c : Call) → ledger_run room b (cs ++ (c ∷ [])) ≡ ledger_step room (ledger_run room b cs) c
ledger-last room b [] c = refl
ledger-last room b (d ∷ cs) c = ledger-last room (ledger_step room b d) cs c

kept-unless : (n : Option Fault) (b d : Orders) (new : List Taken) → Kept b new d → Kept b (unless_drawn n new []) (unless_drawn n d b)
kept-unless None b d new k = k
kept-unless (Some n) b d new k = kept b

tick-shape : (b : Orders) (rows : List Quote) (n : Option Fault) → drawn (table_tests 0 rows) ≡ n → Shape exchange_calls b (tick rows) [] (unless_drawn n (Ledger.tick rows b) b)
tick-shape b rows None e = acting exchange_calls b _ (tick rows) [] rows (λ n. refl) (ap (λ n. unless_drawn n (Some rows) None) e) (kept (Ledger.tick rows b))
tick-shape b rows (Some n) e = quiet exchange_calls b _ (tick rows) [] (λ n. refl) (ap (λ n. unless_drawn n (Some rows) None) e) (kept b)

step-shape : (room : ℕ) (b : Orders) (c : Call) → Shape exchange_calls b c (takes_in room b c) (ledger_step room b c)
step-shape room b (insert o) =
    quiet exchange_calls b _ (insert o) _ (λ n. refl) refl
    (kept-unless (drawn (take_tests room b o)) b (take_on (plain o) b) (plain o ∷ []) (record { waiting = refl; booked = refl; trades = refl }))
step-shape room b (delete n) = erasing exchange_calls b _ (delete n) [] n (λ k. refl) refl (kept (erase n b))
step-shape room b (tick rows) = tick-shape b rows (drawn (table_tests 0 rows)) refl

apart : (n : ℕ) (c : Call) → deletes n c ≡ true → tradable c ≡ None
apart n (insert o) e = refl
apart n (delete m) e = refl
apart n (tick rows) e = absurd (let z : ◌≡◌ {A = ℕ} 0 1 = cc in omega arith)

ledger-runs : (room : ℕ) → Lives.Runs exchange_calls (takes_after room) (ledger_after room)
ledger-runs room =
    record {
      apart = record { apart = apart };
      starts = refl;
      shape = λ past c.
          subst (Shape exchange_calls (ledger_after room past) c (takes_after room past c)) (sym (ledger-last room no_orders past c)) (step-shape room (ledger_after room past) c);
    }

-- ---- the theorem: for a log of any length that a slice has, and every list of calls, refused ones included

pub exchange-run : (l₀ : List Trade) → length l₀ < 2 ^ 64 → (cs : List Call) → ExchangeRun l₀ cs
exchange-run l₀ h cs =
    let m = run-meets l₀ h (opened l₀) no_orders cs (opened-meets l₀) in
    record {
      lived = Lives.lived exchange_calls (takes_after (length l₀)) (ledger_after (length l₀)) (ledger-runs (length l₀)) cs;
      answered = run-answers l₀ h (opened l₀) no_orders cs (opened-meets l₀);
      log = m.log;
      logged =
          ap (take (run (opened l₀) cs).exchange.counts.logged) m.log
          ∙ take-over (ledger_after (length l₀) cs).trades l₀ (run (opened l₀) cs).exchange.counts.logged (sym m.books.logged-is);
      rest = m.books.rest;
      wait = m.books.wait;
      sound = no-sixteen l₀ (run (opened l₀) cs) (ledger_after (length l₀) cs) m;
    }
