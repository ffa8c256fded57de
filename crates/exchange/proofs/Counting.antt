-- What counts that hold together obey. Assumes nothing.
use Rattle.std.specs.declared.option.Option.{Option}
use Rattle.std.specs.declared.option.Option.TheVariants.{None, Some}
use Rattle.std.specs.Option.{option_or}
use Rattle.std.proofs.Common.{◌≡◌, ℕ, ◌+◌, ◌<◌, ◌≤◌, Bool, true, false, not, ◌||◌, eqb, ltb, [], ◌∷◌, sym, refl, ap, ◌∙◌, arith, ltb-false, le-ltb, lt-ltb, eqb-true}
use borrow.Author.Tests.{eqb-false}
use Rattle.market.specs.Faults.{◌draws◌, drawn}
use Rattle.market.specs.declared.fault.Fault.{Fault}
use Rattle.market.specs.declared.fault.Fault.TheVariants.{LogFull, BookFull, Unsound}
use Rattle.market.specs.Orders.{order_tests}
use Rattle.market.specs.declared.order.Order.{Order}
use Rattle.market.proofs.Faults.{drawn-append, append-none, none-drawn}
use Rattle.orders.specs.Orders.{book_width}
use Rattle.exchange.specs.State.{broken_of, broken_test, broken_fault, log_fault, room_of}
use Rattle.exchange.specs.Insert.{taken_one, has_room, try_join_of, insert_tests}
use Rattle.exchange.specs.declared.state.Counts.{Counts}
use Rattle.exchange.specs.declared.state.UistV1.{UistV1}
use Rattle.exchange.specs.declared.insert.Joining.{Joining}

pub or_left : (a b : Bool) → a || b ≡ false → a ≡ false
or_left false b h = refl
or_left true b h = h

pub or_right : (a b : Bool) → a || b ≡ false → b ≡ false
or_right false b h = h
or_right true false h = refl
or_right true true h = h

-- ---- 16

-- the counts that do not draw 16
pub record Sound (c : Counts) : Type 0 where
  pub together : c.resting + c.waits ≤ 1024
  pub bounded : c.taken ≤ c.room
  pub numbers : c.ids ≤ c.taken
  pub logs : c.logged + (c.resting + c.waits) ≤ c.taken

pub sound-facts : (c : Counts) → broken_of c ≡ false → Sound c
sound-facts c h =
    let past_room = or_right (ltb c.taken (c.logged + (c.resting + c.waits))) _ h in
    let past-given = or_right (ltb c.room c.taken) _ past_room in
    record {
      together = ltb-false _ _ (or_right (ltb c.taken c.ids) _ past-given);
      bounded = ltb-false _ _ (or_left (ltb c.room c.taken) _ past_room);
      numbers = ltb-false _ _ (or_left (ltb c.taken c.ids) _ past-given);
      logs = ltb-false _ _ (or_left (ltb c.taken (c.logged + (c.resting + c.waits))) _ h);
    }

pub sound-not-broken : {c : Counts} → Sound c → broken_of c ≡ false
sound-not-broken s =
    simp (le-ltb _ _ s.logs, le-ltb _ _ s.bounded, le-ltb _ _ s.numbers, le-ltb _ _ s.together)

-- the same by what is drawn
pub fault-sound : (c : Counts) → broken_fault c ≡ None → Sound c
fault-sound c e = sound-facts c (none-drawn (broken_of c) Unsound [] e).0

-- of such counts no more orders rest and wait than the book has places
pub few_booked : (c : Counts) → broken_fault c ≡ None → c.resting + c.waits ≤ 1024
few_booked c e = (fault-sound c e).together

pub sound-fault : {c : Counts} → Sound c → broken_fault c ≡ None
unfolding drawn
sound-fault s = ap (λ (x : Bool). drawn ((x draws Unsound) ∷ [])) (sound-not-broken s)

not-false : (b : Bool) → not b ≡ false → b ≡ true
not-false true h = refl
not-false false h = sym h

-- no 16 for a log of this length
pub log_facts : (c : Counts) (n : ℕ) → log_fault c n ≡ None → (n ≡ c.room) × (broken_of c ≡ false)
log_facts c n e =
    let h = (none-drawn (not (eqb n c.room) || broken_of c) Unsound [] e).0 in (
      eqb-true n c.room (not-false _ (or_left (not (eqb n c.room)) (broken_of c) h)),
      or_right (not (eqb n c.room)) (broken_of c) h,
    )

-- ---- 10 and 11

-- the counts of an exchange that takes one more order
pub record Room (c : Counts) : Type 0 where
  pub sound : Sound c
  pub rows : c.taken < c.room
  pub places : c.resting + c.waits < 1024

pub room-facts : (c : Counts) → Sound c → drawn (room_of c) ≡ None → Room c
room-facts c s e =
    let a = none-drawn (eqb c.taken c.room) LogFull _ e in
    let b = none-drawn (eqb (c.resting + c.waits) book_width) BookFull _ a.1 in
    let t = eqb-false c.taken c.room a.0 in
    let n = eqb-false (c.resting + c.waits) book_width b.0 in
    record { sound = s; rows = omega (arith, s.bounded); places = omega (arith, s.together) }

-- an insertion that draws nothing
pub insert-facts : (c : Counts) (o : Order) → drawn (insert_tests c o) ≡ None → Room c
insert-facts c o e =
    let a = none-drawn (broken_of c) Unsound _ e in
    room-facts c (sound-facts c a.0) (append-none (order_tests o) (room_of c) a.1).1

-- 16, then 1 and 2, then 10 and 11
pub in_turn : (c : Counts) (o : Order) → option_or (option_or (broken_fault c) (drawn (order_tests o))) (drawn (room_of c)) ≡ drawn (insert_tests c o)
in_turn c o =
    ap (λ (d : Option Fault). option_or d (drawn (room_of c))) (sym (drawn-append (broken_test c ∷ []) (order_tests o)))
    ∙ sym (drawn-append (broken_test c ∷ order_tests o) (room_of c))

-- the step's own test
pub record Free (c : Counts) : Type 0 where
  pub place : c.resting + c.waits < book_width
  pub row : c.taken < c.room

pub free-facts : (c : Counts) → has_room c ≡ true → Free c
free-facts c h = record { place = grind arith; row = grind arith }

pub has_room-free : {c : Counts} → Free c → has_room c ≡ true
has_room-free {c} f = simp (lt-ltb (c.resting + c.waits) book_width f.place, lt-ltb c.taken c.room f.row)

-- one order more waits, at its place
abbrev pub joining : Counts → Joining
joining c = record { counts = taken_one c; at = c.resting + c.waits }

-- where there is room, one order more waits
pub joins : (c : Counts) → Free c → try_join_of c ≡ Some (joining c)
unfolding try_join_of
joins c f = rw (has_room-free f)

module _ (e : UistV1) (o : Order) (n : drawn (insert_tests e.counts o) ≡ None) where
  free : Free e.counts
  free = let r = insert-facts e.counts o n in record { place = r.places; row = r.rows }

  -- where nothing is drawn there is a place of the book
  pub join_fits : e.counts.resting + e.counts.waits < 1024
  join_fits = free.place

  -- and the order joins there
  pub joins_by : try_join_of e.counts ≡ Some (joining e.counts)
  joins_by = joins e.counts free
