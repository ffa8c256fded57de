-- How many orders a send takes, at most all of them, and how many sales a liquidation queues, no more than there are symbols held. Assumes nothing.
use Prim.Native.Nat.{◌-◌, ◌≤◌}
use native.Mathlib.Omega.{arith}
use mathlib.Core.List.{List}
use mathlib.Core.Path.{◌≡◌, ap}
use Rattle.std.specs.declared.option.Option.TheVariants.{Some}
use lib.Ieee.{Float}
use lib.ListN.{length}
use Rattle.market.specs.declared.order.Order.{Order}
use Rattle.rules.specs.Liquidation.{sales_for}
use Rattle.rules.specs.Money.{Money}
use Rattle.portfolio.specs.Liquidate.{held_count}
use Rattle.portfolio.proofs.Selling.{sales-few}
use Rattle.broker.specs.Send.{sent_all}
use Rattle.broker.specs.declared.state.UistBroker.{UistBroker}
use Rattle.broker.proofs.Sending.{sent-taken, taken-grows}

-- how many orders a send takes: at most all of them
module _ (b : UistBroker) (l : List Order) (s : UistBroker) (e : s ≡ sent_all b l) where
  pub sent-grows : b.exchange.counts.taken ≤ s.exchange.counts.taken
  sent-grows = omega (arith, ap (λ (x : UistBroker). x.exchange.counts.taken) e, taken-grows b l)

  queued-few : s.exchange.counts.taken - b.exchange.counts.taken ≤ length l
  queued-few = omega (arith, ap (λ (x : UistBroker). x.exchange.counts.taken) e, sent-taken b l)

-- `sales-few`, by a name that an attribute can cite
pub sales_few : (m : Money) (a : Float) (l : List Order) → sales_for m a ≡ Some l → length l ≤ held_count m
sales_few = sales-few
