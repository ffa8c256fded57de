-- Lists of orders. Definitions only.
use Rattle.std.specs.Prelude.{◌+◌, cond, List, ◌++◌, length, take, replicate, set, ltb}
use Rattle.std.specs.Prelude.{Option, None, Some}
use Rattle.lists.specs.Lists.{over, given}
use Rattle.market.specs.Orders.{blank_order}
use Rattle.market.specs.declared.order.Order.{Order}
use Rattle.portfolio.specs.declared.list.OrderList.{OrderList}

unfoldable pub no_orders : OrderList
no_orders = record { orders = replicate 256 blank_order; count = 0 }

-- the orders of a list
abbrev pub listed : OrderList → List Order
listed l = take l.count l.orders

-- the orders of a list that may be missing
abbrev pub listed_in : Option OrderList → Option (List Order)
listed_in x = given x None (λ l. Some (listed l))

-- a list with an order behind its own, where there is a place
abbrev pub with_order : OrderList → Order → OrderList
with_order l o = cond (ltb l.count 256) (record { orders = set l.orders l.count o; count = l.count + 1 }) l

-- a list with these orders behind its own, as far as there is place
unfoldable pub onto_of : OrderList → List Order → OrderList
onto_of l m = record { orders = over (take 256 (take l.count l.orders ++ m)) l.orders; count = length (take 256 (take l.count l.orders ++ m)) }
