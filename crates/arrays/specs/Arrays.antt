-- The first rows of a caller's arrays, which are lent, and the entries past them, which are not. Definitions only.
use Rattle.std.specs.Prelude.{ℕ, min, List, take, drop, replicate, None}
use Rattle.market.specs.Orders.{blank_order, event_of}
use Rattle.market.specs.declared.order.Order.{Order}
use Rattle.market.specs.declared.order.OrderEvent.{OrderEvent}
use Rattle.market.specs.declared.quote.Quote.{Quote}
use Rattle.market.specs.declared.weight.Weight.{Weight}
use Rattle.arrays.specs.declared.Lists.{Lists}
use Rattle.arrays.specs.declared.Orders.{Orders}

-- the rows lent of a table's or the weights' array: as many as are said, of 512
abbrev pub tradable_in : Lists → List Quote
tradable_in x = take (min x.first 512) x.tradable

abbrev pub fetched_in : Lists → List Quote
fetched_in x = take (min x.second 512) x.fetched

abbrev pub weights_in : Lists → List Weight
weights_in x = take (min x.third 512) x.weights

-- the orders lent: as many as are said, of 1,024
abbrev pub orders_in : Orders → List Order
orders_in x = take (min x.count 1024) x.list

-- ---- an array of 1,024 entries that is lent to be written

-- its first entries, as many as are said
abbrev pub lent_of : {A : Type 0} → ℕ → List A → List A
lent_of room l = take (min room 1024) l

-- the entries past those
abbrev pub past_lent : {A : Type 0} → ℕ → List A → List A
past_lent room l = drop (min room 1024) l

-- what it holds before the call
unfoldable pub blank_events : List OrderEvent
blank_events = replicate 1024 (event_of blank_order None)

unfoldable pub blank_orders : List Order
blank_orders = replicate 1024 blank_order
