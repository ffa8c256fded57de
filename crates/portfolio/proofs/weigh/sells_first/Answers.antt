-- `sells_first` meets its contract: both sides put onto an empty list are all of the orders.
use mathlib.Core.Path.{ap, ◌∙◌}
use native.Mathlib.Omega.{arith}
use Rattle.std.proofs.Common.{rules}
use Rattle.orders.specs.Orders.{of_side}
use Rattle.portfolio.specs.Lists.{listed, onto_of}
use Rattle.portfolio.specs.declared.list.OrderList.{OrderList}
use mathlib.Core.Bool.{true, false}
use Rattle.portfolio.proofs.Listing.{none-count, onto-few, sides-listed}
use Rattle.portfolio.proofs.weigh.sells_first.Goals as goal

pub side_onto-sales-requires : goal.side_onto-sales-requires
side_onto-sales-requires c = omega (arith, ap (λ (l : OrderList). l.count) c.none.ensures, none-count)

pub side_onto-requires : goal.side_onto-requires
side_onto-requires c = onto-few _ _ _ c.side_onto-sales.ensures

pub returns : goal.returns
returns c = record {
  sorted =
      ap listed (c.side_onto.ensures ∙ ap (λ (l : OrderList). onto_of l (of_side false (listed c.args.list.now)))
      (c.side_onto-sales.ensures ∙ ap (λ (l : OrderList). onto_of l (of_side true (listed c.args.list.now))) c.none.ensures))
      ∙ sides-listed c.args.list.now (search rules);
  few = onto-few _ _ _ c.side_onto.ensures;
}
