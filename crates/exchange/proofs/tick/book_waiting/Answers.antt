-- `book_waiting` meets its contract: the sells, then the buys, are booked, and each side has places.
use Rattle.std.proofs.Common.{rules, ◌+◌, true, false, arith, ap, ◌∙◌}
use Rattle.exchange.specs.Tick.{of_side, orders_in, Booking, booking, book_side_of, book_waiting_of}
use Rattle.exchange.proofs.Booking.{sides-fit, side-after, book-append}
use Rattle.exchange.proofs.tick.book_waiting.Goals as goal

pub book_side-sold-requires : goal.book_side-sold-requires
book_side-sold-requires c = omega (arith, sides-fit c.args.book.now c.args.from c.args.waits c.args.behind.at c.requires.0 c.requires.1)

pub book_side-requires : goal.book_side-requires
book_side-requires c = omega (arith, side-after _ _ _ c.book_side-sold.ensures, sides-fit c.args.book.now c.args.from c.args.waits c.args.behind.at c.requires.0 c.requires.1)

pub returns : goal.returns
unfolding book_waiting_of
returns c = let l = orders_in c.args.book.now c.args.from (c.args.from + c.args.waits) in
    c.book_side.ensures
    ∙ ap (λ (b : Booking). book_side_of b (of_side false l)) c.book_side-sold.ensures
    ∙ book-append (booking c.args.book.now c.args.behind) (of_side true l) (of_side false l) (search rules)
