-- `book_side` meets its contract: the orders that are left, booked behind those that are, make the whole.
use Rattle.exchange.specs.Tick.{side_of, booking, book_side_of}
use Rattle.exchange.proofs.Booking.{Inv}
use Rattle.exchange.proofs.tick.book_side.Given as goal

abbrev pub invariant-loop-w : goal.invariant-loop-w
invariant-loop-w l =
    Inv l.sells l.waiting (book_side_of (booking l.fn.book l.fn.from) (side_of l.sells l.waiting)) (record { book = l.book; at = l.at; ids = l.ids }) l.w-index
