-- The sender's numbers, and a pending quantity with an order's effect, by what is read: document 01, section 4. Definitions only.
use Rattle.std.specs.Prelude.{Bool, ◌++◌, Float}
use Rattle.std.specs.Prelude.{Option}
use Rattle.lists.specs.Lists.{given}
use Rattle.market.specs.Faults.{drawn}
use Rattle.market.specs.Orders.{event_of, order_tests}
use Rattle.market.specs.declared.order.Order.{Order}
use Rattle.market.specs.declared.order.OrderEvent.{OrderEvent}
use Rattle.rules.specs.Amounts.{plus}
use Rattle.rules.specs.Money.{unless_zero, effect}
use Rattle.rules.specs.Sends.{send_tests_at}
use Rattle.exchange.specs.State.{room_of}
use Rattle.exchange.specs.declared.state.Counts.{Counts}
use Rattle.sender.specs.declared.AtSymbol.{AtSymbol}

-- an order's event by what its tests read
unfoldable pub event_at : Order → Bool → Float → AtSymbol → Counts → OrderEvent
event_at o failed cash x c = event_of o (drawn (order_tests o ++ send_tests_at failed cash x.quote (unless_zero x.holding) o ++ room_of c))

-- a symbol's pending quantity with an order's effect
unfoldable pub pending_after : Order → Option Float → Float
pending_after o pending = given pending (effect o) (λ p. plus p (effect o))
