-- Insertion: document 01, section 3, and the sender's numbers of a direct insertion. Definitions only.
use Rattle.std.specs.Prelude.{◌+◌, Option, None, Some, Bool, cond, ◌&&◌, List, ◌∷◌, ◌++◌, nat_lt, slice_set}
use Rattle.market.specs.Faults.{Test, drawn, unless_drawn}
use Rattle.market.specs.declared.fault.After.{After}
use Rattle.market.specs.Orders.{order_tests}
use Rattle.market.specs.declared.order.Order.{Order}
use Rattle.orders.specs.Orders.{book_width}
use Rattle.exchange.specs.State.{broken_test, room_of, waiting_row}
use Rattle.exchange.specs.declared.state.Counts.{Counts}
use Rattle.exchange.specs.declared.state.UistV1.{UistV1}
use Rattle.exchange.specs.declared.insert.Joining.{Joining}

-- 16, then 1, 2, 10, 11
abbrev pub insert_tests : Counts → Order → List Test
insert_tests c o = broken_test c ∷ (order_tests o ++ room_of c)

-- the counts with one order more that waits
abbrev pub taken_one : Counts → Counts
taken_one c = record { resting = c.resting; waits = c.waits + 1; ids = c.ids; taken = c.taken + 1; logged = c.logged; room = c.room }

-- there is room for one more order
abbrev pub has_room : Counts → Bool
has_room c = nat_lt (c.resting + c.waits) book_width && nat_lt c.taken c.room

-- one order more waits, and its place, where there is room
unfoldable pub try_join_of : Counts → Option Joining
try_join_of c = cond (has_room c) (Some (record { counts = taken_one c; at = c.resting + c.waits })) None

-- the same; where there is no room, nothing moves
unfoldable pub join_of : Counts → Joining
join_of c = cond (has_room c) (record { counts = taken_one c; at = c.resting + c.waits }) (record { counts = c; at = 0 })

-- an insertion joins the waiting list
abbrev pub joined : UistV1 → Order → UistV1
joined e o =
    record {
      book = slice_set e.book (e.counts.resting + e.counts.waits) (waiting_row o);
      counts = taken_one e.counts;
    }

unfoldable pub insert_of : UistV1 → Order → After UistV1
insert_of e o =
    let n = drawn (insert_tests e.counts o) in
    record { state = unless_drawn n (joined e o) e; fault = n }
