-- The calls of demand 3, and what they answer. Definitions only.
use Rattle.std.specs.Prelude.{ℕ, List, Option, Float}
use Rattle.market.specs.declared.fault.Fault.{Fault}
use Rattle.market.specs.declared.order.Order.{Order}
use Rattle.market.specs.declared.quote.Quote.{Quote}
use Rattle.market.specs.declared.weight.Weight.{Weight}
use Rattle.market.specs.declared.order.OrderEvent.{OrderEvent}

-- deposits, withdrawals, liquidations, sends of one order and of a list, direct insertions, deletions, checks and updates.
-- A check brings its tradable and its fetched table; an update its weights too. The last list of `send_list` and `update` is the one lent for events
pub data Call : Type 0 where
  deposit withdraw liquidate : Float → Call
  send : Order → Call
  send_list : List Order → List OrderEvent → Call
  insert : Order → Call
  delete : ℕ → Call
  check : List Quote → List Quote → Call
  update : List Quote → List Quote → List Weight → List OrderEvent → Call

-- what a call answers: what was drawn; a deposit's or a withdrawal's success with its amount (a liquidation answers like a withdrawal), or what a cash mover
-- drew with its amount; an order's event; the lent list of events afterwards; trades booked;
-- the total value, the number of events, and the lent list afterwards
pub data Answer : Type 0 where
  fault : Option Fault → Answer
  deposited withdrawn : Float → Answer
  refused : Option Fault → Float → Answer
  event : OrderEvent → Answer
  events : Option Fault → List OrderEvent → Answer
  traded : Option Fault → ℕ → Answer
  updated : Option Fault → Float → ℕ → List OrderEvent → Answer
