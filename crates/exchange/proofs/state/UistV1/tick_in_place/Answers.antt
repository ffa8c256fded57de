-- `tick_in_place` meets its contract: what its calls give, put together, is the tick's definition, also where something is drawn and
-- nothing trades or is booked.
use Rattle.std.proofs.Common.{◌≡◌, ℕ, ◌+◌, ◌-◌, ◌≤◌, List, map, take, drop, sym, ap, ◌∙◌, arith}
use Rattle.std.specs.declared.option.Option.{Option}
use Rattle.std.specs.declared.option.Option.TheVariants.{None, Some}
use Rattle.lists.specs.Lists.{keep}
use Rattle.market.specs.Faults.{unless_drawn, first_drawn}
use Rattle.market.specs.declared.fault.Fault.{Fault}
use Rattle.market.proofs.Faults.{first-none, some-drawn}
use Rattle.market.specs.Quotes.{row_at}
use Rattle.market.specs.declared.table.Table.{Table}
use Rattle.exchange.specs.State.{broken_fault, resting_of, waiting_of}
use Rattle.exchange.specs.Tick.{stays, Executed, execute_of, Booking, booking, orders_in, sells_first, book_side_of, book_waiting_of, counts_after, ticked, refused_with, tick_done, tick_fault, tick_of}
use Rattle.exchange.specs.declared.state.Booked.{Booked}
use Rattle.exchange.specs.declared.state.Counts.{Counts}
use Rattle.exchange.specs.declared.state.UistV1.{UistV1}
use Rattle.exchange.specs.declared.tick.Numbered.{Numbered}
use Rattle.exchange.specs.declared.tick.Ticked.{Ticked}
use Rattle.exchange.proofs.Counting.{Sound, fault-sound}
use Rattle.exchange.proofs.Executing.{few-executed}
use Rattle.exchange.proofs.Booking.{book-none, booked-behind}
use Rattle.lists.proofs.Over.{drop-over}
use Rattle.exchange.proofs.state.UistV1.tick_in_place.Goals as goal
use Rattle.exchange.proofs.state.UistV1.tick_in_place.Goals.{then-waits-eq0, else-waits-eq0}

-- a tick that draws nothing has counts that hold together
sound-at : (c : Counts) (fault : Option Fault) → None ≡ first_drawn (broken_fault c) fault → Sound c
sound-at c fault h = fault-sound c (first-none (broken_fault c) fault (sym h)).0

-- what it goes over fits the book
fits : (c : Counts) (fault n : Option Fault) → n ≡ first_drawn (broken_fault c) fault → unless_drawn n c.resting 0 + unless_drawn n c.waits 0 ≤ 1024
fits c fault None h = (sound-at c fault h).together
fits c fault (Some n) h = omega arith

-- and the log
logs-fit : (c : Counts) (fault n : Option Fault) (k : ℕ) → n ≡ first_drawn (broken_fault c) fault → k ≤ unless_drawn n c.resting 0 → n ≡ None → c.logged + k ≤ c.taken
logs-fit c fault None k h l z = omega (arith, (sound-at c fault h).logs)
logs-fit c fault (Some n) k h l z = absurd (some-drawn n z)

abbrev answer : Counts → ℕ → Option Fault → Executed → Booking → Ticked
answer c first n x b = record { exchange = record { book = b.book; counts = c }; trades = x.trades; count = x.count; first = first; fault = n }

module _ (e : UistV1) (t : Table) where
  abbrev kept : List Booked
  kept = keep (stays (row_at t)) (resting_of e)

  -- the orders that wait
  waiting-in : orders_in e.book e.counts.resting (e.counts.resting + e.counts.waits) ≡ waiting_of e
  waiting-in =
      let n : e.counts.resting + e.counts.waits - e.counts.resting ≡ e.counts.waits = omega arith in
      ap (λ (m : ℕ). map (λ (b : Booked). b.order) (take m (drop e.counts.resting e.book))) n

  abbrev from-kept : Executed → Booking
  from-kept x = record { book = x.book; at = x.kept; ids = e.counts.ids }

  abbrev after : Executed → Booking → Counts
  after x b = counts_after e.counts b.at b.ids x.count

  acts : (x : Executed) (b : Booking) → x ≡ execute_of e.book e.counts.resting t →
      b ≡ book_waiting_of e.book e.counts.resting e.counts.waits (from-kept x) → answer (after x b) e.counts.logged None x b ≡ tick_done e (row_at t)
  unfolding execute_of book_waiting_of ticked
  acts x b p q =
      let x₀ = execute_of e.book e.counts.resting t in
      let b₀ = q ∙ ap (λ (y : Executed). book_waiting_of e.book e.counts.resting e.counts.waits (from-kept y)) p
      ∙ ap (λ l. book_side_of (from-kept x₀) (sells_first l)) waiting-in
      ∙ booked-behind kept e.book e.counts.ids (sells_first (waiting_of e)) in
      ap (λ (y : Executed). answer (after y b) e.counts.logged None y b) p ∙ ap (λ (d : Booking). answer (after x₀ d) e.counts.logged None x₀ d) b₀

  rests : (x : Executed) (b : Booking) (n : Option Fault) → x ≡ execute_of e.book 0 t → b ≡ book_waiting_of e.book 0 0 (from-kept x) → answer e.counts 0 n x b ≡ refused_with e n
  unfolding execute_of book_waiting_of
  rests x b n p q =
      let x₀ = execute_of e.book 0 t in
      let b₀ = q ∙ book-none (from-kept x) ∙ ap from-kept p in
      ap (λ (y : Executed). answer e.counts 0 n y b) p ∙ ap (answer e.counts 0 n x₀) b₀

  tick-by : (n : Option Fault) → n ≡ tick_fault e t.fault → unless_drawn n (tick_done e (row_at t)) (refused_with e n) ≡ tick_of e t
  unfolding tick_of
  tick-by n h = ap (λ (m : Option Fault). unless_drawn m (tick_done e (row_at t)) (refused_with e m)) h

  done : (n : Option Fault) (r w f : ℕ) (x : Executed) (b : Booking) (c : Counts) → n ≡ tick_fault e t.fault → r ≡ unless_drawn n e.counts.resting 0 → w ≡ unless_drawn n e.counts.waits 0 →
      x ≡ execute_of e.book r t → b ≡ book_waiting_of e.book r w (from-kept x) → c ≡ unless_drawn n (after x b) e.counts → f ≡ unless_drawn n e.counts.logged 0 →
      answer c f n x b ≡ tick_of e t
  done None r w f x b c h hr hw p q hc hf =
      let p₀ = p ∙ ap (λ (m : ℕ). execute_of e.book m t) hr in
      let q₀ = q ∙ ap (λ (m : ℕ). book_waiting_of e.book m w (from-kept x)) hr ∙ ap (λ (m : ℕ). book_waiting_of e.book e.counts.resting m (from-kept x)) hw in
      ap (λ (d : Counts). answer d f None x b) hc ∙ ap (λ (m : ℕ). answer (after x b) m None x b) hf ∙ acts x b p₀ q₀ ∙ tick-by None h
  done (Some n) r w f x b c h hr hw p q hc hf =
      let p₀ = p ∙ ap (λ (m : ℕ). execute_of e.book m t) hr in
      let q₀ = q ∙ ap (λ (m : ℕ). book_waiting_of e.book m w (from-kept x)) hr ∙ ap (λ (m : ℕ). book_waiting_of e.book 0 m (from-kept x)) hw in
      ap (λ (d : Counts). answer d f (Some n) x b) hc ∙ ap (λ (m : ℕ). answer e.counts m (Some n) x b) hf ∙ rests x b (Some n) p₀ q₀ ∙ tick-by (Some n) h

-- no more stay, or trade, than the tick goes over
kept-fits : (book : List Booked) (t : Table) (r : ℕ) (x : Executed) → x ≡ execute_of book r t → x.kept + x.count ≤ r
unfolding execute_of
kept-fits book t r x p = rw p (few-executed (row_at t) book r)

-- 16, then what the table drew
fault_is : (c : Counts) (n b f : Option Fault) → n ≡ first_drawn b f → b ≡ broken_fault c → n ≡ first_drawn (broken_fault c) f
fault_is c n b f h e = h ∙ ap (λ (k : Option Fault). first_drawn k f) e

-- what the tick goes over, after the second count
over-fits : (c : Counts) (f n : Option Fault) (r w : ℕ) → n ≡ first_drawn (broken_fault c) f → r ≡ unless_drawn n c.resting 0 → w ≡ unless_drawn n c.waits 0 → r + w ≤ 1024
over-fits c f n r w h hr hw = omega (arith, hr, hw, fits c f n h)

-- the orders that wait stand where they stood, past those that stay
old-waiting : (book : List Booked) (t : Table) (r w : ℕ) (x : Executed) (b : Booking) → x ≡ execute_of book r t → book_waiting_of x.book r w b ≡ book_waiting_of book r w b
unfolding execute_of book_waiting_of
old-waiting book t r w x b p =
    let kept = keep (stays (row_at t)) (take r book) in
    ap (λ (l : List Booked). book_side_of b (sells_first (map (λ (o : Booked). o.order) (take (r + w - r) l))))
    (ap (λ (y : Executed). drop r y.book) p ∙ drop-over kept book r (omega (arith, few-executed (row_at t) book r)))

-- where none waits, none is booked
none-waiting : (book : List Booked) (r w : ℕ) (b : Booking) → w ≡ 0 → b ≡ book_waiting_of book r w b
unfolding book_waiting_of
none-waiting book r w b z =
    let n : r + w - r ≡ 0 = omega (arith, z) in
    sym (ap (λ (k : ℕ). book_side_of b (sells_first (map (λ (o : Booked). o.order) (take k (drop r book))))) n ∙ book-none b)

pub execute_orders-tally-requires-clause-small : goal.execute_orders-tally-requires-clause-small
execute_orders-tally-requires-clause-small c = omega (arith, over-fits c.args.self.now.counts c.as_table-table.result.now.fault _ _ _ (fault_is c.args.self.now.counts _ _ c.as_table-table.result.now.fault c.or-fault.ensures c.fault.ensures) c.unless_drawn-resting.ensures c.unless_drawn-waits.ensures)

pub book_waiting-booked-requires : goal.book_waiting-booked-requires
book_waiting-booked-requires c = (over-fits c.args.self.now.counts c.as_table-table.result.now.fault _ _ _ (fault_is c.args.self.now.counts _ _ c.as_table-table.result.now.fault c.or-fault.ensures c.fault.ensures) c.unless_drawn-resting.ensures c.unless_drawn-waits.ensures, omega (arith, kept-fits _ _ _ _ c.execute_orders-tally.ensures))

pub after-self-requires : goal.after-self-requires
after-self-requires c z = logs-fit c.args.self.now.counts c.as_table-table.result.now.fault _ _ (fault_is c.args.self.now.counts _ _ c.as_table-table.result.now.fault c.or-fault.ensures c.fault.ensures)
    (omega (arith, kept-fits _ _ _ _ c.execute_orders-tally.ensures, c.unless_drawn-resting.ensures)) z

pub returns : goal.returns
returns c =
    let new = c.execute_orders-tally.new.book in
    let behind : Numbered = record { at = c.execute_orders-tally.result.kept; ids = c.args.self.now.counts.ids } in
    let booked : booking c.if-waits-eq0.self.book c.if-waits-eq0.booked ≡ book_waiting_of new c.unless_drawn-resting.result c.unless_drawn-waits.result (booking new behind)
    = elim c.if-waits-eq0.branch [
      | then-waits-eq0 w ↦ ap (λ (e : UistV1). booking e.book c.if-waits-eq0.booked) w.self-is ∙ ap (booking new) w.booked-is ∙ none-waiting new _ _ _ w.if-waits-eq0.true
      | else-waits-eq0 w ↦ ap (λ (e : UistV1). booking e.book c.if-waits-eq0.booked) w.self-is ∙ ap (booking w.book_waiting-booked.new.book) w.booked-is ∙ w.book_waiting-booked.ensures
    ] in
    done _ _ _ _ _ _ _ _ _ (fault_is c.args.self.now.counts _ _ c.as_table-table.result.now.fault c.or-fault.ensures c.fault.ensures) c.unless_drawn-resting.ensures c.unless_drawn-waits.ensures
    c.execute_orders-tally.ensures (booked ∙ old-waiting _ _ _ _ _ _ c.execute_orders-tally.ensures) c.after-self.ensures c.unless_drawn.ensures
    ∙ ap (tick_of _) c.as_table-table.ensures
