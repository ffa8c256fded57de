-- Booking: trades, and fetched rows as the latest quotes. Definitions only.
use Rattle.std.specs.Prelude.{ℕ, ◌%◌, get_or, set}
use Rattle.std.specs.Prelude.{List, Option, None, Some}
use Rattle.std.specs.Float.{nan}
use Rattle.lists.specs.Lists.{each, given}
use Rattle.market.specs.Quotes.{row_at}
use Rattle.market.specs.declared.quote.Quote.{Quote}
use Rattle.market.specs.declared.table.Table.{Table}
use Rattle.market.specs.declared.trade.Trade.{Trade}
use Rattle.rules.specs.Money.{adding, taking, paid, or_zero, unless_zero}
use Rattle.portfolio.specs.declared.state.Funds.{Funds}
use Rattle.portfolio.specs.declared.booking.Settled.{Settled}

-- ---- trades

-- what a trade makes of cash and of its symbol's holding and pending quantity; absent reads as 0.0
unfoldable pub settle_of : Trade → Settled → Settled
settle_of t x =
    record {
      cash = paid t.typ x.cash t.value;
      holding = adding t.typ (or_zero (unless_zero x.holding)) t.quantity;
      pending = unless_zero (taking t.typ (or_zero x.pending) t.quantity);
    }

abbrev pub settled_at : Funds → ℕ → Settled
settled_at f s = record { cash = f.cash; holding = get_or f.holding s nan; pending = get_or f.pending s None }

abbrev pub put_settled : Funds → ℕ → Settled → Funds
put_settled f s x =
    record {
      holding = set f.holding s x.holding;
      pending = set f.pending s x.pending;
      cash = x.cash;
      failed = f.failed;
    }

unfoldable pub settle_one : Funds → Trade → Funds
settle_one f t = put_settled f (t.symbol % 256) (settle_of t (settled_at f (t.symbol % 256)))

-- ---- latest quotes: each fetched row is its symbol's latest, those of other symbols kept

abbrev pub merged_rows : List (Option Quote) → Table → List (Option Quote)
merged_rows rows f = each (λ i q. given (row_at f i) q Some) 0 rows

unfoldable pub merge_of : Table → Table → Table
merge_of l f = record { rows = merged_rows l.rows f; fault = l.fault }
