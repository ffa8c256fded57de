-- The exchange's state, and the lender's 16 for an exchange. Definitions only.
use Rattle.std.specs.Prelude.{ℕ, ◌+◌, Bool, not, ◌||◌, List, [], ◌∷◌, map, take, drop, replicate, ◌==◌, nat_lt, Option, Result}
use Rattle.market.specs.Faults.{Test, ◌draws◌, drawn, ok_unless}
use Rattle.market.specs.declared.fault.Fault.{Fault}
use Rattle.market.specs.declared.fault.Fault.TheVariants.{Unsound}
use Rattle.market.specs.Orders.{blank_order}
use Rattle.market.specs.declared.order.Order.{Order}
use Rattle.orders.specs.Orders.{book_width, room_tests}
use Rattle.exchange.specs.declared.state.Booked.{Booked}
use Rattle.exchange.specs.declared.state.Counts.{Counts}
use Rattle.exchange.specs.declared.state.UistV1.{UistV1}

-- a row of the book: an order that waits has no number yet, and 0 stands there
abbrev pub booked_as : ℕ → Order → Booked
booked_as n o = record { id = n; order = o }

abbrev pub waiting_row : Order → Booked
waiting_row o = booked_as 0 o

abbrev pub blank_row : Booked
blank_row = waiting_row blank_order

-- a fresh exchange for a log of this length
unfoldable pub fresh : ℕ → UistV1
fresh room =
    record {
      book = replicate 1024 blank_row;
      counts = record { resting = 0; waits = 0; ids = 0; taken = 0; logged = 0; room = room };
    }

-- 16: not logged + resting + waiting <= taken <= log length, or numbers given above taken, or resting + waiting above 1,024
abbrev pub broken_of : Counts → Bool
broken_of c =
    nat_lt c.taken (c.logged + (c.resting + c.waits))
    || (nat_lt c.room c.taken
    || (nat_lt c.taken c.ids
    || nat_lt book_width (c.resting + c.waits)))

-- lender: 16 where the counts do not hold together; with a log lent, also where its length is not that of the start
abbrev pub broken_test : Counts → Test
broken_test c = broken_of c draws Unsound

abbrev pub log_differs : Counts → ℕ → Bool
log_differs c n = not (n == c.room)

abbrev pub log_test : Counts → ℕ → Test
log_test c n = (log_differs c n || broken_of c) draws Unsound

abbrev pub broken_fault : Counts → Option Fault
broken_fault c = drawn (broken_test c ∷ [])

abbrev pub log_fault : Counts → ℕ → Option Fault
log_fault c n = drawn (log_test c n ∷ [])

-- sender: 10 and 11 by the counts
abbrev pub room_of : Counts → List Test
room_of c = room_tests c.room book_width c.taken (c.resting + c.waits)

-- the resting orders with their numbers, in book order
abbrev pub resting_of : UistV1 → List Booked
resting_of e = take e.counts.resting e.book

-- the waiting orders, in order of taking
abbrev pub waiting_of : UistV1 → List Order
waiting_of e = map (λ b. b.order) (take e.counts.waits (drop e.counts.resting e.book))

-- how many trades are in the log, or 16
abbrev pub trade_count_of : UistV1 → Result ℕ Fault
trade_count_of e = ok_unless (broken_fault e.counts) e.counts.logged
