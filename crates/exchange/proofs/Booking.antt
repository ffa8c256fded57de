-- The loop that books the waiting orders of a side. Assumes nothing.
use Rattle.std.proofs.Common.{◌≡◌, ℕ, suc, ◌+◌, ◌-◌, ◌<◌, ◌≤◌, Bool, true, false, cond, List, [], ◌∷◌, ◌++◌, length, get_or, take, drop, set, sym, refl, ap, ◌∙◌, append_assoc, append-nil, add-one, arith, length-append, length-set, length-take, drop-cons, take-suc-set, drop-set-lt}
use mathlib.Core.Bool.{beq}
use lib.ListN.{length-map, drop_of_length-le}
use Rattle.orders.proofs.Sides.{sides}
use Rattle.lists.specs.Lists.{over}
use Rattle.lists.proofs.Over.{take-over, over-take, over-over}
use Rattle.market.specs.Orders.{is_sell}
use Rattle.market.specs.declared.order.Order.{Order}
use Rattle.exchange.specs.State.{booked_as}
use Rattle.exchange.specs.Tick.{orders_in, of_side, side_of, next, number_from, counter_after, Booking, book_side_of}
use Rattle.exchange.specs.declared.state.Booked.{Booked}
use Rattle.exchange.proofs.Executing.{no_booked}

-- ---- numbering

pub length-numbers : (n : ℕ) (l : List Order) → length (number_from n l) ≡ length l
length-numbers n [] = refl
length-numbers n (o ∷ l) = ap suc (length-numbers (next n) l)

pub numbers-append : (n : ℕ) (l m : List Order) → number_from n (l ++ m) ≡ number_from n l ++ number_from (counter_after n l) m
numbers-append n [] m = refl
numbers-append n (o ∷ l) m = ap (λ (z : List Booked). booked_as n o ∷ z) (numbers-append (next n) l m)

pub counter-append : (n : ℕ) (l m : List Order) → counter_after n (l ++ m) ≡ counter_after (counter_after n l) m
counter-append n [] m = refl
counter-append n (o ∷ l) m = counter-append (next n) l m

-- ---- one booking after another

pub same-booking : (a b : Booking) → a.book ≡ b.book → a.at ≡ b.at → a.ids ≡ b.ids → a ≡ b
same-booking a b p q r =
    ap (λ (l : List Booked). record { book = l; at = a.at; ids = a.ids }) p
    ∙ ap (λ (n : ℕ). record { book = b.book; at = n; ids = a.ids }) q
    ∙ ap (λ (n : ℕ). record { book = b.book; at = b.at; ids = n }) r

pub book-none : (b : Booking) → book_side_of b [] ≡ b
unfolding book_side_of
book-none b = same-booking (book_side_of b []) b (rw append-nil (over-take b.at b.book)) (omega arith) refl

-- the next order booked
abbrev pub booked_one : Booking → Order → Booking
booked_one b o = record { book = set b.book b.at (booked_as b.ids o); at = b.at + 1; ids = next b.ids }

pub book-one : (b : Booking) (o : Order) (l : List Order) → b.at < length b.book → book_side_of b (o ∷ l) ≡ book_side_of (booked_one b o) l
unfolding book_side_of
book-one b o l h =
    let x : Booked = booked_as b.ids o in
    let k = take b.at b.book in
    let m = number_from (next b.ids) l in
    let s = set b.book b.at x in
    let front : take (b.at + 1) s ++ m ≡ k ++ (x ∷ m) = rw (add-one, take-suc-set b.book b.at x) (append_assoc k (x ∷ []) m) in
    let low : b.at < length (k ++ (x ∷ m)) = omega (arith, length-append k (x ∷ m), length-take b.at b.book) in
    let p : over (k ++ (x ∷ m)) b.book ≡ over (take (b.at + 1) s ++ m) s
    = ap (λ (z : List Booked). (k ++ (x ∷ m)) ++ z) (sym (drop-set-lt (length (k ++ (x ∷ m))) b.book b.at x low)) ∙ ap (λ (z : List Booked). over z s) (sym front) in
    let q : b.at + suc (length l) ≡ b.at + 1 + length l = omega arith in
    cc

-- orders booked behind those that a list has put in the first places
pub booked-behind : (k book : List Booked) (n : ℕ) (l : List Order) →
    book_side_of (record { book = over k book; at = length k; ids = n }) l
    ≡ record { book = over (k ++ number_from n l) book; at = length (k ++ number_from n l); ids = counter_after n l }
unfolding book_side_of
booked-behind k book n l =
    let p : over (take (length k) (over k book) ++ number_from n l) (over k book) ≡ over (k ++ number_from n l) book
    = ap (λ (z : List Booked). over (z ++ number_from n l) (over k book)) (take-over k book (length k) refl) ∙ over-over k (number_from n l) book in
    let q : length k + length l ≡ length (k ++ number_from n l) = omega (arith, length-append k (number_from n l), length-numbers n l) in
    cc

-- the orders of two lists, one after the other
booked-both : (k book : List Booked) (n : ℕ) (l m : List Order) →
    book_side_of (book_side_of (record { book = over k book; at = length k; ids = n }) l) m
    ≡ record { book = over (k ++ number_from n (l ++ m)) book; at = length (k ++ number_from n (l ++ m)); ids = counter_after n (l ++ m) }
booked-both k book n l m =
    ap (λ (b : Booking). book_side_of b m) (booked-behind k book n l)
    ∙ booked-behind (k ++ number_from n l) book (counter_after n l) m
    ∙ rw (numbers-append n l m, counter-append n l m, append_assoc k (number_from n l) (number_from (counter_after n l) m))

-- how far a booking goes
pub side-after : (b b' : Booking) (l : List Order) → b' ≡ book_side_of b l → b'.at ≡ b.at + length l
unfolding book_side_of
side-after b b' l e = ap (λ (x : Booking). x.at) e

-- the same of any booking
pub book-append : (b : Booking) (l m : List Order) → b.at ≤ length b.book → book_side_of (book_side_of b l) m ≡ book_side_of b (l ++ m)
book-append b l m h =
    let k = take b.at b.book in
    let low : length k ≡ b.at = simp length-take (omega arith) in
    let same : b ≡ record { book = over k b.book; at = length k; ids = b.ids } = same-booking _ _ (sym (over-take b.at b.book)) (sym low) refl in
    ap (λ (x : Booking). book_side_of (book_side_of x l) m) same
    ∙ booked-both k b.book b.ids l m
    ∙ sym (ap (λ (x : Booking). book_side_of x (l ++ m)) same ∙ booked-behind k b.book b.ids (l ++ m))

-- no more orders stand between two places than there are places
pub length-orders : (book : List Booked) (from until : ℕ) → length (orders_in book from until) ≤ until - from
length-orders book from until = omega (arith, length-map (take (until - from) (drop from book)) (λ (b : Booked). b.order), length-take (until - from) (drop from book))

-- the sides of the waiting orders have places
pub sides-fit : (old : List Booked) (from waits at : ℕ) → from + waits ≤ 1024 → at ≤ from →
    at + (length (of_side true (orders_in old from (from + waits))) + length (of_side false (orders_in old from (from + waits)))) ≤ 1024
sides-fit old from waits at h k = omega (arith, sides (orders_in old from (from + waits)), length-orders old from (from + waits))

-- ---- the loop: the orders that are left, booked behind those that are, make the whole

-- the orders of the side from a turn's on
abbrev left : Bool → List Booked → ℕ → List Order
left sells waiting k = side_of sells (drop k waiting)

pub record Inv (sells : Bool) (waiting : List Booked) (whole b : Booking) (k : ℕ) : Type 0 where
  pub wide : length b.book ≡ 1024
  pub room : b.at + length (left sells waiting k) ≤ 1024
  pub rest : book_side_of b (left sells waiting k) ≡ whole

module _ (sells : Bool) (waiting : List Booked) (whole b : Booking) (k : ℕ) (v : Inv sells waiting whole b k) (h : k < length waiting) where
  abbrev here : Order
  here = (get_or waiting k no_booked).order

  left-first : (t : Bool) → beq (is_sell here.kind) sells ≡ t → left sells waiting k ≡ cond t (here ∷ left sells waiting (k + 1)) (left sells waiting (k + 1))
  left-first t e =
      let first : drop k waiting ≡ get_or waiting k no_booked ∷ drop (k + 1) waiting = rw (drop-cons waiting k no_booked h, add-one) in
      ap (side_of sells) first ∙ ap (λ (x : Bool). cond x (here ∷ left sells waiting (k + 1)) (left sells waiting (k + 1))) e

  -- there is a place for an order of the side
  pub place-left : beq (is_sell here.kind) sells ≡ true → b.at < 1024
  place-left t = omega (arith, ap length (left-first true t), v.room)

  pub books-one : (b' : Booking) → beq (is_sell here.kind) sells ≡ true → b' ≡ booked_one b here → Inv sells waiting whole b' (k + 1)
  books-one b' t e =
      let x : Booked = booked_as b.ids here in
      let low : b.at < length b.book = omega (arith, place-left t, v.wide) in
      let a : b'.at ≡ b.at + 1 = ap (λ (y : Booking). y.at) e in
      record {
        wide = ap (λ (y : Booking). length y.book) e ∙ length-set b.book b.at x ∙ v.wide;
        room = omega (arith, ap length (left-first true t), v.room);
        rest = ap (λ (y : Booking). book_side_of y (left sells waiting (k + 1))) e ∙ sym (book-one b here (left sells waiting (k + 1)) low) ∙ ap (book_side_of b) (sym (left-first true t)) ∙ v.rest;
      }

  pub passes-one : (b' : Booking) → beq (is_sell here.kind) sells ≡ false → b' ≡ b → Inv sells waiting whole b' (k + 1)
  passes-one b' t e =
      let a : b'.at ≡ b.at = ap (λ (y : Booking). y.at) e in
      record {
        wide = ap (λ (y : Booking). length y.book) e ∙ v.wide;
        room = omega (arith, ap length (left-first false t), v.room);
        rest = ap (λ (y : Booking). book_side_of y (left sells waiting (k + 1))) e ∙ ap (book_side_of b) (sym (left-first false t)) ∙ v.rest;
      }

-- at the loop's end nothing is left
pub side-booked : (sells : Bool) (waiting : List Booked) (whole b : Booking) (k : ℕ) → Inv sells waiting whole b k → length waiting ≤ k → b ≡ whole
side-booked sells waiting whole b k v h =
    let none : drop k waiting ≡ [] = drop_of_length-le waiting h in
    sym (book-none b) ∙ ap (λ (l : List Booked). book_side_of b (side_of sells l)) (sym none) ∙ v.rest
