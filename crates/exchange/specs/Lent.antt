-- The exchange over lent lists: the log `&mut [Trade]`, and a tick's table `&[Quote]`. Definitions only.
use Rattle.std.specs.Prelude.{List, ◌∷◌, length}
use Rattle.lists.specs.Lists.{stored}
use Rattle.market.specs.Faults.{Test, drawn, unless_drawn}
use Rattle.market.specs.Quotes.{table_tests, row_for}
use Rattle.market.specs.declared.quote.Quote.{Quote}
use Rattle.market.specs.declared.trade.Trade.{Trade}
use Rattle.exchange.specs.State.{fresh, log_test, resting_of}
use Rattle.exchange.specs.Tick.{trades_of, ticked}
use Rattle.exchange.specs.declared.state.UistV1.{UistV1}
use Rattle.exchange.specs.declared.tick.TickAnswer.{TickAnswer}

-- an exchange for a log
abbrev pub open_of : List Trade → UistV1
open_of log = fresh (length log)

-- 16, then the rows: 1, 2, 3
abbrev pub lent_tests : UistV1 → List Quote → List Trade → List Test
lent_tests e rows log = log_test e.counts (length log) ∷ table_tests 0 rows

-- a tick answers how many orders traded; a refusal changes nothing
unfoldable pub lent_tick : UistV1 → List Quote → List Trade → TickAnswer
lent_tick e rows log =
    let n = drawn (lent_tests e rows log) in
    record {
      exchange = unless_drawn n (ticked e (row_for rows)) e;
      traded = unless_drawn n (length (trades_of (row_for rows) (resting_of e))) 0;
      fault = n;
    }

-- the new rows stand after the old ones; what lies past them is as it was, and a refusal leaves the log alone
unfoldable pub lent_log : UistV1 → List Quote → List Trade → List Trade
lent_log e rows log = unless_drawn (drawn (lent_tests e rows log)) (stored log e.counts.logged (trades_of (row_for rows) (resting_of e))) log
