-- What an order's own tests draw, the whole of its tests draws. Assumes nothing.
use mathlib.Core.Path.{◌≡◌, ap, sym, ◌∙◌}
use mathlib.Core.List.{List, ◌++◌}
use Rattle.std.specs.declared.option.Option.{Option}
use Rattle.std.specs.declared.option.Option.TheVariants.{Some}
use Rattle.market.specs.Faults.{Test, drawn, first_drawn}
use Rattle.market.specs.Orders.{event_of}
use Rattle.market.specs.declared.fault.Fault.{Fault}
use Rattle.market.specs.declared.order.Order.{Order}
use Rattle.market.proofs.Faults.{drawn-append}

pub first-draws : (o : Order) (a b : List Test) (f : Fault) → Some f ≡ drawn a → event_of o (Some f) ≡ event_of o (drawn (a ++ b))
first-draws o a b f e = ap (event_of o) (ap (λ (d : Option Fault). first_drawn d (drawn b)) e ∙ sym (drawn-append a b))
