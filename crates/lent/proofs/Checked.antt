-- A check by value on tables read off lent rows is the one that the crate broker's specs/Lent.antt states, and its trades fit the log. Assumes nothing.
use Rattle.std.specs.declared.option.Option.{Option}
use Rattle.std.specs.declared.option.Option.TheVariants.{None}
use Prim.Native.Nat.{◌+◌, ◌≤◌}
use mathlib.Core.Path.{◌≡◌, sym, ◌∙◌, ap, subst}
use mathlib.Core.List.{List, [], ◌∷◌, ◌++◌}
use native.Mathlib.Omega.{arith}
use lib.ListN.{length, take}
use Rattle.lists.specs.Lists.{stored}
use Rattle.market.specs.Faults.{Test, drawn, unless_drawn, first_drawn}
use Rattle.market.specs.declared.fault.Fault.{Fault}
use Rattle.market.specs.Quotes.{table_tests, table_of, row_at}
use Rattle.market.specs.declared.quote.Quote.{Quote}
use Rattle.market.specs.declared.table.Table.{Table}
use Rattle.market.specs.declared.trade.Trade.{Trade}
use Rattle.market.proofs.Faults.{drawn-append}
use Rattle.market.proofs.Tables.{table-fault}
use Rattle.exchange.specs.Tick.{no_trades}
use Rattle.exchange.proofs.Executing.{few-executed}
use Rattle.portfolio.specs.State.{money_of}
use Rattle.portfolio.specs.Liquidate.{held_count}
use Rattle.broker.specs.Check.{check_fault, booked_by, checked_by, Checks}
use Rattle.broker.specs.Lender.{log_test, broker_log_fault}
use Rattle.broker.specs.Lent.{trades_in, log_with, check_for, check_broker, check_traded, check_log, held_after}
use Rattle.broker.specs.declared.state.UistBroker.{UistBroker}
use Rattle.broker.specs.declared.check.Checked.{Checked}
use Rattle.broker.proofs.Settling.{tick-trades}
use Rattle.lent.specs.Answers.{AnswersCheck}
use Rattle.lent.specs.declared.uist.CheckAnswer.{CheckAnswer}
use Rattle.lent.proofs.Faults.{whole}
use Rattle.lent.proofs.Storing.{count-most, front-is, stored-by, fits_by}

-- where nothing is drawn, a check's trades fit the log
pub trades-fit : (b : UistBroker) (t : List Quote) (log : List Trade) (l : List Test) → drawn (log_test b log ∷ l) ≡ None →
    (length (trades_in b t) ≤ 1024) × (b.exchange.counts.logged + length (trades_in b t) ≤ length log)
trades-fit b t log l e =
    let w = whole b (length log) l e in
    let few = few-executed (row_at (table_of t)) b.exchange.book b.exchange.counts.resting in
    (omega (arith, few, w.sound.together), omega (arith, few, w.same, w.sound.logs, w.sound.bounded))

-- ---- the check

abbrev pub answer_in : Checked → CheckAnswer
answer_in x = record { broker = x.broker; traded = x.count; queued = x.queued; fault = x.fault }

module _ (b : UistBroker) (t f : List Quote) (log : List Trade) where
  check-drawn : check_fault b (length log) (table_of t).fault (table_of f).fault ≡ check_for b t f log
  unfolding check_fault check_for
  check-drawn =
      rw (table-fault t, table-fault f)
      (ap (first_drawn (broker_log_fault b (length log))) (sym (drawn-append (table_tests 0 t) (table_tests 0 f)))
      ∙ sym (drawn-append (log_test b log ∷ []) (table_tests 0 t ++ table_tests 0 f)))

  fit-where : (d : Option Fault) → d ≡ check_for b t f log → d ≡ None → (length (trades_in b t) ≤ 1024) × (b.exchange.counts.logged + length (trades_in b t) ≤ length log)
  unfolding check_for
  fit-where d e z = trades-fit b t log _ (sym e ∙ z)

  module _ {u v : Table} {x : Checked} (ru : u ≡ table_of t) (rv : v ≡ table_of f) (done : Checks b u v (length log) x) where
    checks : Checks b (table_of t) (table_of f) (length log) x
    checks = rw (ru, rv) at done

    drawn_is : x.fault ≡ check_for b t f log
    drawn_is = checks.fault ∙ check-drawn

    trades-front : take x.count x.trades ≡ unless_drawn x.fault (trades_in b t) []
    trades-front =
        front-is x.fault x.count x.trades (trades_in b t) no_trades (λ z. checks.trades ∙ tick-trades b (table_of t) (length log) (table_of f).fault (sym checks.fault ∙ z))
        checks.count

    pub check-fits : (x.count ≤ 1024) × (x.first + length (take x.count x.trades) ≤ length log)
    check-fits = (
      count-most x.fault x.count 1024 (trades_in b t) (λ z. (fit-where x.fault drawn_is z).0) checks.count,
      fits_by x.fault x.first b.exchange.counts.logged log (take x.count x.trades) (trades_in b t) trades-front checks.first (λ z. (fit-where x.fault drawn_is z).1),
    )

    pub check-answers : (after : List Trade) → after ≡ stored log x.first (take x.count x.trades) → AnswersCheck b t f log (answer_in x) after
    unfolding check_broker check_traded check_log held_after
    check-answers after is-after =
        record {
          broker = checks.broker ∙ ap (λ (k : Option Fault). unless_drawn k (checked_by b (table_of t) (table_of f)) b) drawn_is;
          traded = checks.count ∙ ap (λ (k : Option Fault). unless_drawn k (length (trades_in b t)) 0) drawn_is;
          queued = subst (λ (k : Option Fault). x.queued ≤ unless_drawn k (held_count (money_of (booked_by b (table_of t) (table_of f)).portfolio)) 0) drawn_is checks.queued;
          fault = drawn_is;
          log_is = is-after
              ∙ stored-by x.fault x.first b.exchange.counts.logged log (take x.count x.trades) (trades_in b t) trades-front checks.first
              ∙ ap (λ (k : Option Fault). unless_drawn k (log_with b t log) log) drawn_is;
        }
