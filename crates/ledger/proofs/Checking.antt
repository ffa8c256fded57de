-- Checks and updates keep the relation between a broker and a ledger. Assumes nothing.
use Prim.Native.Nat.{◌<◌, ◌^◌}
use native.Mathlib.Omega.{arith}
use mathlib.Core.Bool.{Bool, true, false, cond, or-false, or-true}
use mathlib.Core.Path.{◌≡◌, refl, ◌∙◌, sym, ap, subst, fun_ext}
use mathlib.Core.List.{List, [], ◌∷◌, ◌++◌, foldl}
use Rattle.std.specs.declared.option.Option.{Option}
use Rattle.std.specs.declared.option.Option.TheVariants.{None, Some}
use Rattle.std.proofs.lemmas.Option.{none-some}
use Rattle.lists.specs.Lists.{holds, All}
use Rattle.lists.proofs.Each.{length-each}
use Rattle.market.specs.Faults.{drawn}
use Rattle.market.specs.Orders.{zero64}
use Rattle.market.specs.Quotes.{table_tests, table_of, row_for, row_at}
use Rattle.market.specs.Trades.{trade_on}
use Rattle.market.specs.declared.order.Order.{Order}
use Rattle.market.specs.declared.quote.Quote.{Quote}
use Rattle.market.specs.declared.trade.Trade.{Trade}
use Rattle.market.specs.declared.weight.Weight.{Weight}
use Rattle.market.proofs.Tables.{table-row}
use Rattle.orders.specs.Orders.{Entry, rests, trade_for, rows_of, fills_of}
use Rattle.exchange.specs.State.{resting_of}
use Rattle.exchange.specs.Tick.{trades_of}
use Rattle.exchange.proofs.Books.{books-trades, books-tick}
use Rattle.rules.specs.Amounts.{plus, negated, below}
use Rattle.rules.specs.Money.{fetched, settled, failed_if}
use Rattle.rules.specs.Weights.{plan_of}
use Rattle.portfolio.specs.State.{money_of}
use Rattle.portfolio.specs.Liquidate as Sales
use Rattle.broker.specs.Liquidate as Liquidate
use Rattle.broker.specs.Check as Check
use Rattle.rules.specs.Liquidation.{buffer}
use Rattle.portfolio.specs.Booking.{settle_one, merge_of}
use Rattle.broker.specs.Check.{failed_of, rescued_by, booked_by, checked_by}
use Rattle.broker.specs.Update.{plan_after, weighed_by}
use Rattle.portfolio.specs.declared.state.Portfolio.{Portfolio}
use Rattle.broker.specs.declared.state.UistBroker.{UistBroker}
use Rattle.ledger.specs.Ledger as Ledger
use Rattle.ledger.specs.Ledger.{Ledger, booking, rescuing, checking, after_weights}
use Rattle.ledger.proofs.Views.{settles-view, settles-wide}
use Rattle.ledger.proofs.Fetching.{row_below, merge-fetched}
use Rattle.ledger.proofs.Standing.{Stands, cash-same, sends-stand, liquidate-stands, success-same}

-- ---- the symbols of trades

traded-at : (o : Order) (r : Option Quote) (x : Trade) → trade_on r o ≡ Some x → (x.symbol ≡ o.symbol) × ((q : Quote) × (r ≡ Some q))
unfolding trade_on
traded-at o None x e = absurd (none-some x e)
traded-at o (Some q) x e = (grind arith, (q, refl))

all_append : {A : Type 0} (P : A → Type 0) (l m : List A) → All P l → All P m → All P (l ++ m)
all_append P [] m a b = b
all_append P (x ∷ l) m a b = (a.0, all_append P l m a.1 b)

module _ (t : List Quote) (d : drawn (table_tests 0 t) ≡ None) where
  traded-below : (o : Order) (r : Option Quote) (x : Trade) → row_for t o.symbol ≡ r → trade_on r o ≡ Some x → x.symbol < 256
  traded-below o r x f e = let s = traded-at o r x e in grind (arith, s.0, row_below 0 t o.symbol s.1.0 d (f ∙ s.1.1))

  row-trades : (o : Order) (x : Option Trade) → trade_for t o ≡ x → (b : Bool) → All (λ y. y.symbol < 256) (cond b (holds x) [])
  row-trades o None e true = tt
  row-trades o (Some y) e true = (traded-below o (row_for t o.symbol) y refl e, tt)
  row-trades o x e false = tt

  pub fills_below : (l : List Entry) → All (λ y. y.symbol < 256) (fills_of t l)
  fills_below [] = tt
  fills_below (e ∷ l) = all_append (λ y. y.symbol < 256) (rows_of t e) (fills_of t l) (row-trades e.taken.order (trade_for t e.taken.order) refl (rests e.fate)) (fills_below l)

-- ---- booking

module _ (b : UistBroker) (L : Ledger) (m : Stands b L) (t f : List Quote) (dt : drawn (table_tests 0 t) ≡ None) (df : drawn (table_tests 0 f) ≡ None) where
  pub rows_same : row_at (table_of t) ≡ row_for t
  rows_same = fun_ext (table-row t dt)

  pub trades-same : trades_of (row_at (table_of t)) (resting_of b.exchange) ≡ fills_of t L.orders.booked
  trades-same = ap (λ r. trades_of r (resting_of b.exchange)) rows_same ∙ books-trades b.exchange L.room L.orders m.books t

  -- the portfolio with the fetched quotes
  abbrev quoted : Portfolio
  quoted = record { latest = merge_of b.portfolio.latest (table_of f); funds = b.portfolio.funds; costs = b.portfolio.costs; lot = b.portfolio.lot }

  quoted-view : money_of quoted ≡ fetched f L.money
  unfolding fetched
  quoted-view =
      ap (λ r. record { costs = (money_of b.portfolio).costs; lot = (money_of b.portfolio).lot; latest = r; failed = (money_of b.portfolio).failed; cash = (money_of b.portfolio).cash; held = (money_of b.portfolio).held; pending = (money_of b.portfolio).pending })
      (merge-fetched b.portfolio.latest f m.rows df)
      ∙ ap (fetched f) m.money

  booked-view : money_of (booked_by b (table_of t) (table_of f)).portfolio ≡ (booking L t f).money
  booked-view =
      ap (λ l. money_of (record { latest = quoted.latest; funds = foldl settle_one b.portfolio.funds l; costs = b.portfolio.costs; lot = b.portfolio.lot })) trades-same
      ∙ settles-view quoted (fills_of t L.orders.booked) (fills_below t dt L.orders.booked) m.wide
      ∙ ap (λ n. foldl settled n (fills_of t L.orders.booked)) quoted-view

  booking-stands : L.room < 2 ^ 64 → Stands (booked_by b (table_of t) (table_of f)) (booking L t f)
  unfolding merge_of
  booking-stands h =
      record {
        books = rw rows_same (books-tick b.exchange L.room L.orders m.books t h);
        money = booked-view;
        wide = settles-wide b.portfolio.funds (trades_of (row_at (table_of t)) (resting_of b.exchange)) m.wide;
        rows = length-each _ 0 b.portfolio.latest.rows ∙ m.rows;
        lot = m.lot;
      }

-- ---- a shortfall

failed-by : (b : UistBroker) (L : Ledger) → Stands b L → (ok : Bool) → Stands (Check.failed_unless ok b) (Ledger.failed_unless ok L)
unfolding failed_of failed_if
failed-by b L m true =
    record {
      books = m.books;
      money = m.money ∙ rw (or-false L.money.failed);
      wide = m.wide;
      rows = m.rows;
      lot = m.lot;
    }
failed-by b L m false =
    record {
      books = m.books;
      money =
          ap (λ n. record { costs = n.costs; lot = n.lot; latest = n.latest; failed = true; cash = n.cash; held = n.held; pending = n.pending }) m.money
          ∙ rw (or-true L.money.failed);
      wide = record { holding = m.wide.holding; pending = m.wide.pending };
      rows = m.rows;
      lot = m.lot;
    }

rescue-by : (b : UistBroker) (L : Ledger) → Stands b L → (t : Bool) →
    Stands (cond t (Check.failed_unless (Ledger.succeeds L (Ledger.shortfall L)) (Liquidate.liquidated_by b (Ledger.shortfall L))) b)
    (cond t (Ledger.failed_unless (Ledger.succeeds L (Ledger.shortfall L)) (Ledger.liquidating L (Ledger.shortfall L))) L)
rescue-by b L m true =
    failed-by _ _ (liquidate-stands b L m (Ledger.shortfall L)) (Ledger.succeeds L (Ledger.shortfall L))
rescue-by b L m false = m

rescue-stands : (b : UistBroker) (L : Ledger) → Stands b L → Stands (rescued_by b) (rescuing L)
unfolding rescued_by rescuing
rescue-stands b L m =
    let c = cash-same b L m in
    let a : Check.shortfall b ≡ Ledger.shortfall L = ap (λ x. plus (negated x) buffer) c in
    subst (λ x. Stands x (cond (below L.money.cash zero64) (Ledger.failed_unless (Ledger.succeeds L (Ledger.shortfall L)) (Ledger.liquidating L (Ledger.shortfall L))) L))
    (sym
    (ap (λ x. cond (below x zero64) (Check.failed_unless (Sales.succeeds (Liquidate.sales_of b (Check.shortfall b))) (Liquidate.liquidated_by b (Check.shortfall b))) b) c
    ∙ ap (λ x. cond (below L.money.cash zero64) (Check.failed_unless (Sales.succeeds (Liquidate.sales_of b x)) (Liquidate.liquidated_by b x)) b) a
    ∙ ap (λ x. cond (below L.money.cash zero64) (Check.failed_unless x (Liquidate.liquidated_by b (Ledger.shortfall L))) b) (success-same b L m (Ledger.shortfall L))))
    (rescue-by b L m (below L.money.cash zero64))

-- ---- a check, and an update

pub check-stands : (b : UistBroker) (L : Ledger) → Stands b L → (t f : List Quote) → drawn (table_tests 0 t) ≡ None → drawn (table_tests 0 f) ≡ None → L.room < 2 ^ 64 →
    Stands (checked_by b (table_of t) (table_of f)) (checking L t f)
unfolding checked_by checking
check-stands b L m t f dt df h = rescue-stands _ _ (booking-stands b L m t f dt df h)

pub plan-same : (b : UistBroker) (L : Ledger) → Stands b L → (w : List Weight) → plan_after b w ≡ plan_of L.money w
plan-same b L m w = ap (λ n. plan_of n w) m.money

pub weigh-stands : (b : UistBroker) (L : Ledger) → Stands b L → (w : List Weight) → Stands (weighed_by b w) (after_weights L w)
unfolding weighed_by
weigh-stands b L m w = rw (plan-same b L m w) (sends-stand b L (plan_of L.money w).orders m)
