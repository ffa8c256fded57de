-- An order's event by what its tests read, the counts that sends keep, and the loop that sends a list. Assumes nothing.
use Prim.Native.Nat.{ℕ, suc, ◌+◌, ◌≤◌, ◌<◌, ◌%◌}
use mathlib.Core.Path.{◌≡◌, refl, ap, sym, ◌∙◌}
use mathlib.Core.Bool.{Bool, true, false, cond}
use mathlib.Core.List.{List, [], ◌∷◌, ◌++◌, foldl-append}
use Rattle.std.specs.declared.option.Option.{Option}
use Rattle.std.specs.declared.option.Option.TheVariants.{None, Some}
use native.Mathlib.Omega.{arith}
use native.Mathlib.Nat.{mod-eq_of_lt}
use native.Mathlib.Numerals.{add-one}
use borrow.Author.Tests.{ltb-true, ltb-false, lt-ltb, eqb-false}
use lib.Dec.{ltb, eqb}
use lib.Ieee.{Float, nan}
use lib.ListN.{length, take, set, get_or, length-replicate}
use lib.Seq.{take-suc, length-take-le}
use Rattle.lists.specs.Lists.{over}
use Rattle.lists.proofs.Over.{over-more}
use Rattle.market.specs.Faults.{Test, ◌draws◌, drawn, unless_drawn}
use Rattle.market.specs.declared.fault.Fault.{Fault}
use Rattle.market.specs.declared.fault.Fault.TheVariants.{UnknownSymbol, LogFull, BookFull}
use Rattle.market.specs.Orders.{blank_order, event_of, order_tests}
use Rattle.market.specs.Quotes.{row_at}
use Rattle.market.specs.declared.order.OrderType.TheVariants.{MarketSell}
use Rattle.market.specs.declared.order.Order.{Order}
use Rattle.market.specs.declared.quote.Quote.{Quote}
use Rattle.market.proofs.Faults.{append-none, none-drawn, test-holds}
use Rattle.exchange.specs.State.{room_of}
use Rattle.exchange.specs.Insert.{taken_one, try_join_of}
use Rattle.exchange.specs.declared.state.Counts.{Counts}
use Rattle.exchange.proofs.Counting.{Sound, room-facts, Free, joining, joins}
use Rattle.floats.specs.Lots.{is_lot}
use Rattle.sender.proofs.Sounding.{counts-sound, lot-sound, both-sound}
use Rattle.broker.specs.Lender.{broken}
use Rattle.rules.specs.Money.{unless_zero}
use Rattle.rules.specs.Sends.{send_tests_at}
use Rattle.portfolio.specs.State.{money_of}
use Rattle.broker.specs.Send.{event_for, taken_by, sent_one, sent_all, events_of, no_events, SendsFit}
use Rattle.portfolio.specs.declared.state.Portfolio.{Portfolio}
use Rattle.broker.specs.declared.state.UistBroker.{UistBroker}
use Rattle.market.specs.declared.order.OrderEvent.{OrderEvent}
use Rattle.sender.specs.Sender.{event_at}
use Rattle.sender.specs.declared.AtSymbol.{AtSymbol}

-- what a read past the end of an array of orders gives; no code reads there
abbrev pub no_order : Order
no_order = record { kind = MarketSell; symbol = 0; shares = nan; price = None }

-- ---- the event by the broker's view

-- what the arrays hold at a place
abbrev pub at_symbol : Portfolio → ℕ → AtSymbol
at_symbol p s = record { quote = get_or p.latest.rows s None; holding = get_or p.funds.holding s nan }

module _ (b : UistBroker) (o : Order) where
  abbrev tests_on : Option Quote → Option Float → List Test
  tests_on quote holding = order_tests o ++ send_tests_at b.portfolio.funds.failed b.portfolio.funds.cash quote holding o ++ room_of b.exchange.counts

  -- a symbol above 255 draws UnknownSymbol, whatever else is read
  draws-1 : (l : List Test) → ltb o.symbol 256 ≡ false → drawn ((ltb 255 o.symbol draws UnknownSymbol) ∷ l) ≡ Some UnknownSymbol
  draws-1 l h = let g = ltb-false o.symbol 256 h in test-holds _ _ l (lt-ltb 255 o.symbol (omega arith))

  same_by : (t : Bool) → ltb o.symbol 256 ≡ t →
      let x = at_symbol b.portfolio (o.symbol % 256) in
      let y = at_symbol b.portfolio o.symbol in
      drawn (tests_on x.quote (unless_zero x.holding)) ≡ drawn (tests_on (row_at b.portfolio.latest o.symbol) (cond t (unless_zero y.holding) None))
  same_by true h = rw (mod-eq_of_lt (ltb-true o.symbol 256 h))
  same_by false h = draws-1 _ h ∙ sym (draws-1 _ h)

  pub event_here : event_at o b.portfolio.funds.failed b.portfolio.funds.cash (at_symbol b.portfolio (o.symbol % 256)) b.exchange.counts ≡ event_for b o
  unfolding event_at event_for
  event_here = ap (event_of o) (same_by (ltb o.symbol 256) refl)

  -- an order that draws nothing passed 10 and 11
  room-past : (quote : Option Quote) (holding : Option Float) → drawn (tests_on quote holding) ≡ None → drawn (room_of b.exchange.counts) ≡ None
  room-past quote holding e =
      let f = b.portfolio.funds in
      let a = append-none (order_tests o) _ e in
      (append-none (send_tests_at f.failed f.cash quote holding o) (room_of b.exchange.counts) a.1).1

  pub room-drawn : (event_for b o).fault ≡ None → drawn (room_of b.exchange.counts) ≡ None
  unfolding event_for
  room-drawn e = room-past ((money_of b.portfolio).latest o.symbol) ((money_of b.portfolio).held o.symbol) e

-- ---- what sends keep of the counts

module _ (P : Counts → Type 0) (one : (c : Counts) → P c → drawn (room_of c) ≡ None → P (taken_one c)) where
  keeps-by : (b : UistBroker) (o : Order) (d : Option Fault) → (d ≡ None → P (taken_one b.exchange.counts)) → P b.exchange.counts → P (unless_drawn d (taken_by b o) b).exchange.counts
  keeps-by b o None t p = t refl
  keeps-by b o (Some f) t p = p

  pub sent-keeps : (b : UistBroker) (o : Order) → P b.exchange.counts → P (sent_one b o).exchange.counts
  unfolding sent_one
  sent-keeps b o p = keeps-by b o (event_for b o).fault (λ z. one b.exchange.counts p (room-drawn b o z)) p

  pub sent-all-keeps : (b : UistBroker) (l : List Order) → P b.exchange.counts → P (sent_all b l).exchange.counts
  sent-all-keeps b [] p = p
  sent-all-keeps b (o ∷ l) p = sent-all-keeps (sent_one b o) l (sent-keeps b o p)

one-sound : (c : Counts) → Sound c → drawn (room_of c) ≡ None → Sound (taken_one c)
one-sound c s z =
    let r = room-facts c s z in
    record { together = omega (arith, r.places); bounded = omega (arith, r.rows); numbers = omega (arith, s.numbers); logs = omega (arith, s.logs) }

lot-by : (b : UistBroker) (o : Order) (d : Option Fault) → (unless_drawn d (taken_by b o) b).portfolio.lot ≡ b.portfolio.lot
lot-by b o None = refl
lot-by b o (Some f) = refl

-- a send keeps the lot
sent-lot : (b : UistBroker) (o : Order) → (sent_one b o).portfolio.lot ≡ b.portfolio.lot
unfolding sent_one
sent-lot b o = lot-by b o (event_for b o).fault

-- a broker that draws no 16 draws none after a send
pub sent-unbroken : (b : UistBroker) (o : Order) → broken b ≡ false → broken (sent_one b o) ≡ false
sent-unbroken b o h =
    both-sound (sent_one b o).portfolio.lot (sent-keeps Sound one-sound b o (counts-sound b.exchange.counts b.portfolio.lot h))
    (ap is_lot (sent-lot b o) ∙ lot-sound b.exchange.counts b.portfolio.lot h)

pub one-fits : (c : Counts) → SendsFit c → drawn (room_of c) ≡ None → Free c
one-fits c s e =
    let a = none-drawn (eqb c.taken c.room) LogFull _ e in
    let b = none-drawn (eqb (c.resting + c.waits) 1024) BookFull _ a.1 in
    let t = eqb-false c.taken c.room a.0 in
    let n = eqb-false (c.resting + c.waits) 1024 b.0 in
    record { place = omega (arith, s.places); row = omega (arith, s.rows) }

taken-fits : (c : Counts) → SendsFit c → drawn (room_of c) ≡ None → SendsFit (taken_one c)
taken-fits c s z = let r = one-fits c s z in record { places = omega (arith, r.place); rows = omega (arith, r.row) }

pub sent_fits : (b : UistBroker) (o : Order) → SendsFit b.exchange.counts → SendsFit (sent_one b o).exchange.counts
sent_fits = sent-keeps SendsFit taken-fits

pub sent-all-fits : (b : UistBroker) (l : List Order) → SendsFit b.exchange.counts → SendsFit (sent_all b l).exchange.counts
sent-all-fits = sent-all-keeps SendsFit taken-fits

-- an order that draws nothing has a place in the book and a row in the log
pub fits_here : (b : UistBroker) (o : Order) → SendsFit b.exchange.counts → (event_for b o).fault ≡ None → Free b.exchange.counts
fits_here b o s z = one-fits b.exchange.counts s (room-drawn b o z)

-- and joins the orders that wait, at that place
pub joins_here : (b : UistBroker) (o : Order) → SendsFit b.exchange.counts → (event_for b o).fault ≡ None → try_join_of b.exchange.counts ≡ Some (joining b.exchange.counts)
joins_here b o s z = joins b.exchange.counts (fits_here b o s z)

-- no fewer orders are taken after sends than before, and at most one more for each order sent
pub taken-grows : (b : UistBroker) (l : List Order) → b.exchange.counts.taken ≤ (sent_all b l).exchange.counts.taken
taken-grows b l = sent-all-keeps (λ c. b.exchange.counts.taken ≤ c.taken) (λ c p z. omega arith) b l (omega arith)

one-taken-by : (b : UistBroker) (o : Order) (d : Option Fault) → (unless_drawn d (taken_by b o) b).exchange.counts.taken ≤ b.exchange.counts.taken + 1
one-taken-by b o None = omega arith
one-taken-by b o (Some f) = omega arith

one-taken : (b : UistBroker) (o : Order) → (sent_one b o).exchange.counts.taken ≤ b.exchange.counts.taken + 1
unfolding sent_one
one-taken b o = one-taken-by b o (event_for b o).fault

pub sent-taken : (b : UistBroker) (l : List Order) → (sent_all b l).exchange.counts.taken ≤ b.exchange.counts.taken + length l
sent-taken b [] = omega arith
sent-taken b (o ∷ l) = omega (arith, sent-taken (sent_one b o) l, one-taken b o)

-- ---- the loops that send a list

length-events : length no_events ≡ 256
unfolding no_events
length-events = length-replicate 256 (event_of blank_order None)

-- an order more is sent
pub sent_next : (b : UistBroker) (l : List Order) (i : ℕ) (d : Order) → i < length l → sent_one (sent_all b (take i l)) (get_or l i d) ≡ sent_all b (take (i + 1) l)
sent_next b l i d h = rw (add-one, take-suc l i d h, foldl-append)

-- the event of an order behind those that are sent
events-append : (b : UistBroker) (l : List Order) (o : Order) → events_of b (l ++ (o ∷ [])) ≡ events_of b l ++ (event_for (sent_all b l) o ∷ [])
unfolding events_of
events-append b [] o = refl
events-append b (x ∷ l) o = ap (λ (z : List OrderEvent). event_for b x ∷ z) (events-append (sent_one b x) l o)

length-told : (b : UistBroker) (l : List Order) → length (events_of b l) ≡ length l
unfolding events_of
length-told b [] = refl
length-told b (o ∷ l) = ap suc (length-told (sent_one b o) l)

pub told_next : (b : UistBroker) (l : List Order) (i : ℕ) (d : Order) → i < length l → length l ≤ 256 →
    set (over (events_of b (take i l)) no_events) i (event_for (sent_all b (take i l)) (get_or l i d)) ≡ over (events_of b (take (i + 1) l)) no_events
told_next b l i d h k =
    let first = take i l in
    let size : i ≡ length (events_of b first) = sym (length-told b first ∙ length-take-le i l (omega arith)) in
    over-more (events_of b first) no_events i _ size (omega (arith, size, length-events))
    ∙ ap (λ (z : List OrderEvent). over z no_events) (sym (events-append b first (get_or l i d)) ∙ ap (events_of b) (rw (add-one, take-suc l i d h)))
