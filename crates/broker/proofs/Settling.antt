-- What a check finds and leaves. Assumes nothing.
use Rattle.std.specs.declared.option.Option.TheVariants.{None}
use Prim.Native.Nat.{ℕ, ◌≤◌}
use native.Mathlib.Omega.{arith}
use mathlib.Core.Bool.{true, false}
use mathlib.Core.Path.{◌≡◌, refl, ap, ◌∙◌}
use mathlib.Core.List.{List, []}
use Rattle.std.specs.declared.option.Option.{Option}
use lib.ListN.{length, take, drop, length-append, length-map, length-take}
use Rattle.lists.specs.Lists.{over, keep}
use Rattle.lists.proofs.Over.{take-over}
use Rattle.market.specs.declared.trade.Trade.{Trade}
use Rattle.market.specs.Faults.{drawn, first_drawn}
use Rattle.market.specs.declared.fault.Fault.{Fault}
use Rattle.market.specs.declared.fault.Fault.TheVariants.{Unsound}
use Rattle.market.specs.Quotes.{row_at}
use Rattle.market.specs.declared.quote.Quote.{Quote}
use Rattle.market.specs.declared.table.Table.{Table}
use Rattle.market.proofs.Faults.{first-none, none-drawn}
use Rattle.exchange.specs.State.{broken_of, log_differs, resting_of, waiting_of}
use Rattle.exchange.specs.Tick.{no_trades, stays, trades_of, of_side, sells_first, number_from, ticked, tick_done, tick_of}
use Rattle.exchange.specs.declared.state.Booked.{Booked}
use Rattle.exchange.specs.declared.state.UistV1.{UistV1}
use Rattle.exchange.specs.declared.tick.Ticked.{Ticked}
use Rattle.exchange.proofs.Counting.{or_right, sound-facts}
use Rattle.exchange.proofs.Executing.{few-executed}
use Rattle.exchange.proofs.Booking.{length-numbers}
use Rattle.orders.proofs.Sides.{sides}
use Rattle.sender.proofs.Sounding.{counts-hold}
use Rattle.broker.specs.Lender.{broken, broken_for, broker_log_fault}
use Rattle.broker.specs.Send.{SendsFit}
use Rattle.broker.specs.Check.{check_fault}
use Rattle.broker.specs.declared.state.UistBroker.{UistBroker}

-- ---- the check

-- a check that draws nothing finds the counts sound and the tradable rows good
pub none-drew : (b : UistBroker) (n : ℕ) (t f : Option Fault) → check_fault b n t f ≡ None → (broken_of b.exchange.counts ≡ false) × (t ≡ None)
unfolding check_fault
none-drew b n t f e =
    let own = first-none (broker_log_fault b n) (first_drawn t f) e in
    let sound = or_right (log_differs b.exchange.counts n) (broken b) (none-drawn (broken_for b n) Unsound [] own.0).0 in
    (counts-hold b.exchange.counts b.portfolio.lot sound, (first-none t f own.1).0)

-- the tick of a check that draws nothing acts
pub tick_acts : (b : UistBroker) (t : Table) (n : ℕ) (f : Option Fault) → check_fault b n t.fault f ≡ None → tick_of b.exchange t ≡ tick_done b.exchange (row_at t)
unfolding tick_of drawn
tick_acts b t n f k = let s = none-drew b n t.fault f k in rw (s.0, s.1)

pub tick-trades : (b : UistBroker) (t : Table) (n : ℕ) (f : Option Fault) → check_fault b n t.fault f ≡ None → (tick_of b.exchange t).trades ≡ over (trades_of (row_at t) (resting_of b.exchange)) no_trades
tick-trades b t n f k = ap (λ (x : Ticked). x.trades) (tick_acts b t n f k)

-- after a tick no order waits, and no more rest than rested and waited: sends fit
pub ticked-fits : (e : UistV1) (rows : ℕ → Option Quote) → broken_of e.counts ≡ false → SendsFit (ticked e rows).counts
unfolding ticked
ticked-fits e rows h =
    let c = e.counts in
    let s = sound-facts c h in
    let w = waiting_of e in
    let waiting = take c.waits (drop c.resting e.book) in
    let waited : length w ≤ c.waits
    = omega (arith, length-map waiting (λ (b : Booked). b.order), length-take c.waits (drop c.resting e.book)) in
    let new = number_from c.ids (sells_first w) in
    let booked : length new ≡ length w = length-numbers c.ids (sells_first w) ∙ length-append (of_side true w) (of_side false w) ∙ sides w in
    record {
      places = omega (arith, s.together, few-executed rows e.book c.resting, length-append (keep (stays rows) (resting_of e)) new);
      rows = s.bounded;
    }

pub fits_ticked : (b : UistBroker) (t : Table) (n : ℕ) (f : Option Fault) → check_fault b n t.fault f ≡ None → SendsFit (ticked b.exchange (row_at t)).counts
fits_ticked b t n f k = ticked-fits b.exchange (row_at t) (none-drew b n t.fault f k).0

-- the trades that a tick lists first
pub listed_trades : (l : List Trade) → take (length l) (over l no_trades) ≡ l
listed_trades l = take-over l no_trades (length l) refl
