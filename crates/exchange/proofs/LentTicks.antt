-- A tick for a lent log and a table read off lent rows is the one that specs/Lent.antt states, and its rows fit the log. Assumes nothing.
use Rattle.std.specs.declared.option.Option.{Option}
use Rattle.std.specs.declared.option.Option.TheVariants.{None, Some}
use Rattle.std.proofs.Common.{◌≡◌, ◌+◌, ◌≤◌, Bool, true, false, not, ◌||◌, eqb, List, [], ◌∷◌, length, sym, refl, ap, ◌∙◌, subst, arith}
use mathlib.Core.Path.{fun_ext}
use lib.ListN.{take}
use Rattle.lists.specs.Lists.{stored}
use Rattle.lists.proofs.Over.{take-over}
use Rattle.market.specs.Faults.{◌draws◌, drawn, unless_drawn}
use Rattle.market.specs.declared.fault.Fault.{Fault}
use Rattle.market.specs.declared.fault.Fault.TheVariants.{Unsound}
use Rattle.market.specs.Quotes.{table_tests, table_of, row_at, row_for}
use Rattle.market.specs.declared.quote.Quote.{Quote}
use Rattle.market.specs.declared.trade.Trade.{Trade}
use Rattle.market.proofs.Tables.{table-fault, table-row}
use Rattle.exchange.specs.State.{broken_of, resting_of}
use Rattle.exchange.specs.Tick.{no_trades, trades_of, tick_done, refused_with, tick_of, tick_for_of, answer_of}
use Rattle.exchange.specs.Lent.{lent_tests, lent_tick, lent_log}
use Rattle.exchange.specs.declared.state.UistV1.{UistV1}
use Rattle.exchange.specs.declared.tick.Ticked.{Ticked}
use Rattle.exchange.proofs.Counting.{Sound, sound-facts, log_facts}
use Rattle.exchange.proofs.Executing.{few-executed}

-- what a tick's answer x says of a lent log
pub record TickFor (e : UistV1) (rows : List Quote) (log : List Trade) (x : Ticked) : Type 0 where
  pub answer : answer_of x ≡ lent_tick e rows log
  pub few : x.count ≤ 1024
  pub fits : x.first + x.count ≤ length log
  pub log_is : stored log x.first (take x.count x.trades) ≡ lent_log e rows log

module _ (e : UistV1) (rows : List Quote) (log : List Trade) where
  refused-for : (n : Fault) → drawn (lent_tests e rows log) ≡ Some n → TickFor e rows log (refused_with e (Some n))
  unfolding lent_tick lent_log
  refused-for n d =
      record {
        answer = rw d;
        few = omega arith;
        fits = omega arith;
        log_is = rw d;
      }

  done-for : drawn (lent_tests e rows log) ≡ None → length log ≡ e.counts.room → broken_of e.counts ≡ false → TickFor e rows log (tick_done e (row_for rows))
  unfolding lent_tick lent_log
  done-for d same sound =
      let s : Sound e.counts = sound-facts e.counts sound in
      let few : length (trades_of (row_for rows) (resting_of e)) ≤ e.counts.resting =
      omega (arith, few-executed (row_for rows) e.book e.counts.resting) in
      record {
        answer = rw d;
        few = omega (arith, s.together);
        fits = omega (arith, s.logs, s.bounded);
        log_is = rw (take-over (trades_of (row_for rows) (resting_of e)) no_trades _ refl, d);
      }

  by_rows : length log ≡ e.counts.room → broken_of e.counts ≡ false → drawn (lent_tests e rows log) ≡ drawn (table_tests 0 rows) → (n : Option Fault) → drawn (table_tests 0 rows) ≡ n →
      TickFor e rows log (unless_drawn n (tick_done e (row_at (table_of rows))) (refused_with e n))
  by_rows same sound d None f =
      subst (λ r. TickFor e rows log (tick_done e r)) (sym (fun_ext (table-row rows f))) (done-for (d ∙ f) same sound)
  by_rows same sound d (Some n) f = refused-for n (d ∙ f)

  by-counts : length log ≡ e.counts.room → broken_of e.counts ≡ false → drawn (lent_tests e rows log) ≡ drawn (table_tests 0 rows) → TickFor e rows log (tick_of e (table_of rows))
  unfolding tick_of drawn
  by-counts same q d = rw (q, table-fault rows) (by_rows same q d (drawn (table_tests 0 rows)) refl)

  -- by whether the lender's 16 is drawn
  abbrev answered : Bool → Ticked
  answered b = let m = drawn ((b draws Unsound) ∷ []) in unless_drawn m (tick_of e (table_of rows)) (refused_with e m)

  abbrev test : Bool
  test = not (eqb (length log) e.counts.room) || broken_of e.counts

  by-test : (b : Bool) → test ≡ b → TickFor e rows log (answered b)
  unfolding drawn
  by-test true p = refused-for Unsound (ap (λ (x : Bool). drawn ((x draws Unsound) ∷ table_tests 0 rows)) p)
  by-test false p =
      let f = log_facts e.counts (length log) (ap (λ (x : Bool). drawn ((x draws Unsound) ∷ [])) p) in
      by-counts f.0 f.1 (ap (λ (x : Bool). drawn ((x draws Unsound) ∷ table_tests 0 rows)) p)

  pub tick-for : TickFor e rows log (tick_for_of e (table_of rows) (length log))
  unfolding tick_for_of
  tick-for = by-test test refl
