-- The walk over weights: that it lists no more orders than rows, and what the walk alone answers. Assumes nothing.
use Prim.Native.Nat.{ℕ, ◌+◌, ◌≤◌}
use mathlib.Core.Bool.{true, false}
use mathlib.Core.Path.{◌≡◌, refl, sym, ◌∙◌, ap}
use mathlib.Core.List.{List, [], ◌∷◌}
use Rattle.std.specs.declared.option.Option.{Option}
use Rattle.std.specs.declared.option.Option.TheVariants.{None, Some}
use Rattle.std.specs.declared.result.Result.TheVariants.{Ok, Err}
use native.Mathlib.Omega.{arith}
use lib.Ieee.{Float}
use lib.ListN.{length, length-append}
use borrow.Author.Tests.{ltb-false}
use Rattle.std.specs.Prelude.{option_map, unwrap_or}
use Rattle.lists.specs.Lists.{over, stored}
use Rattle.market.specs.Faults.{Test, drawn, unless_drawn, first_drawn, ok_unless}
use Rattle.market.specs.declared.fault.Fault.{Fault}
use Rattle.market.specs.declared.fault.Fault.TheVariants.{ListTooShort, Unsound}
use Rattle.market.specs.Weights.{weight_tests, weight_rows, weights_of}
use Rattle.market.specs.declared.order.Order.{Order}
use Rattle.market.specs.declared.quote.Quote.{Quote}
use Rattle.market.specs.declared.weight.Weight.{Weight}
use Rattle.market.proofs.Faults.{some-drawn, drawn-append, append-none, none-drawn}
use Rattle.orders.specs.Orders.{of_side, sells_first}
use Rattle.orders.proofs.Sides.{sides}
use Rattle.rules.specs.Money.{Money}
use Rattle.rules.specs.Values.{liquidation_value}
use Rattle.costs.specs.declared.BrokerCost.{BrokerCost}
use Rattle.rules.specs.Weights.{order_for, orders_at, shares_for, difference, wanted, plan_of, Plan, plan_tests}
use Rattle.portfolio.specs.State.{money_of}
use Rattle.portfolio.specs.Lists.{listed}
use Rattle.portfolio.specs.declared.list.OrderList.{OrderList}
use Rattle.broker.specs.Lender.{broken, lender_tests}
use Rattle.broker.specs.Walk.{walk_fault, plan_by, walked, Walks}
use Rattle.broker.specs.declared.state.UistBroker.{UistBroker}
use Rattle.market.specs.declared.weight.Weights.{Weights}
use Rattle.market.proofs.Rows.{good-few, good-all}
use Rattle.market.proofs.Weights.{weight-laws, weights-fault, weights-all}
use Rattle.lent.specs.Walks.{walk_for, plan_for, walk_fault as answer_fault, walk_count, walk_orders}
use Rattle.lent.specs.Answers.{AnswersWalk}
use Rattle.lent.proofs.Storing.{over-by}

-- rows that draw nothing are at most 256
pub weighed-few : (l : List Weight) → drawn (weight_rows 0 l) ≡ None → length l ≤ 256
weighed-few l z =
    omega (arith, ap length (good-all weight_tests (λ (w : Weight). w.symbol) weight-laws 0 l z), good-few weight_tests (λ (w : Weight). w.symbol) weight-laws 0 l (omega arith))

-- ---- no more orders than rows

order-few : (s : ℕ) (x : Float) → length (order_for s x) ≤ 1
unfolding order_for
order-few s x = grind arith

-- the orders, none where they are missing
abbrev present : Option (List Order) → List Order
present x = unwrap_or x []

shares-few : (s : ℕ) (x : Option Float) → length (present (option_map (order_for s) x)) ≤ 1
shares-few s None = omega arith
shares-few s (Some x) = order-few s x

at-few : (lot : ℕ) (costs : List BrokerCost) (s : ℕ) (d : Float) (q : Option Quote) → length (present (orders_at lot costs s d q)) ≤ 1
at-few lot costs s d None = omega arith
at-few lot costs s d (Some q) = shares-few s (shares_for lot costs d q)

wanted-few : (m : Money) (v : Float) (l : List Weight) → length (present (wanted m v l)) ≤ length l
unfolding wanted
wanted-few m v [] = omega arith
wanted-few m v (w ∷ l) = grind (arith, length-append, at-few m.lot m.costs w.symbol (difference m v w) (m.latest w.symbol), wanted-few m v l)

plan-by : (d : Option Fault) (l : List Order) (k : ℕ) → length l ≤ k → length (unless_drawn d (sells_first l) []) ≤ k
plan-by None l k h = omega (arith, length-append (of_side true l) (of_side false l), sides l)
plan-by (Some f) l k h = omega arith

-- a plan lists no more orders than there are rows
pub planned-few : (m : Money) (l : List Weight) → length (plan_of m l).orders ≤ length l
unfolding plan_of
planned-few m l =
    let walk = wanted m (liquidation_value m) l in
    plan-by (drawn (plan_tests (liquidation_value m) walk)) (present walk) (length l) (wanted-few m (liquidation_value m) l)

-- ---- a plan where nothing is drawn before the walk, and none where something is

walked-same : (d : Option Fault) (p q : Plan) → (d ≡ None → p ≡ q) → walked d p ≡ walked d q
walked-same None p q e = e refl
walked-same (Some f) p q e = refl

walked-fits : (d : Option Fault) (p : Plan) (k : ℕ) → (d ≡ None → length p.orders ≤ k) → length (walked d p).orders ≤ k
walked-fits None p k h = h refl
walked-fits (Some f) p k h = omega arith

walked-draws : (d : Option Fault) (p : Plan) → (walked d p).fault ≡ first_drawn d p.fault
walked-draws None p = refl
walked-draws (Some f) p = refl

walked-over : (d : Option Fault) (p : Plan) (list : List Order) → over (walked d p).orders list ≡ unless_drawn d (over p.orders list) list
walked-over None p list = refl
walked-over (Some f) p list = refl

-- the count that is answered, where the walk lists orders
walked-count : (d : Option Fault) (p : Plan) → (walked d p).fault ≡ None → Ok (length (walked d p).orders) ≡ ok_unless (first_drawn d p.fault) (length p.orders)
walked-count None p e = rw e refl
walked-count (Some f) p e = absurd (some-drawn f e)

-- ---- the walk alone

module _ (b : UistBroker) (w : List Weight) (o : List Order) where
  abbrev tests : List Test
  tests = lender_tests b (length w) (length o)

  abbrev here : Plan
  here = walked (walk_for b w o) (plan_for b w)

  none_lent : walk_for b w o ≡ None → (drawn tests ≡ None) × (drawn (weight_rows 0 w) ≡ None)
  unfolding walk_for
  none_lent z = append-none tests (weight_rows 0 w) z

  room-is : drawn tests ≡ None → length w ≤ length o
  room-is z = ltb-false (length o) (length w) (none-drawn _ ListTooShort _ (none-drawn (broken b) Unsound _ z).1).0

  fits : length here.orders ≤ length o
  fits = walked-fits (walk_for b w o) (plan_for b w) (length o) (λ z. omega (arith, planned-few (money_of b.portfolio) w, room-is (none_lent z).0))

  draws : here.fault ≡ answer_fault b w o
  unfolding answer_fault
  draws = walked-draws (walk_for b w o) (plan_for b w)

  written : over here.orders o ≡ walk_orders b w o
  unfolding walk_orders
  written = walked-over (walk_for b w o) (plan_for b w) o

  -- on weights that were read of the rows
  fault-for : walk_fault b (length w) (length o) (weights_of w).fault ≡ walk_for b w o
  unfolding walk_fault walk_for
  fault-for = ap (first_drawn (drawn tests)) (weights-fault w) ∙ sym (drawn-append tests (weight_rows 0 w))

  -- the program's plan counts only where nothing is drawn
  plan-is : walk_fault b (length w) (length o) (weights_of w).fault ≡ None → plan_by b (weights_of w) ≡ plan_for b w
  plan-is z = ap (plan_of (money_of b.portfolio)) (weights-all w (none_lent (sym fault-for ∙ z)).1)

  walked-here : walked (walk_fault b (length w) (length o) (weights_of w).fault) (plan_by b (weights_of w)) ≡ here
  walked-here = walked-same _ _ (plan_for b w) plan-is ∙ ap (λ (d : Option Fault). walked d (plan_for b w)) fault-for

  module _ {v : Weights} (read : v ≡ weights_of w) where
    -- where orders are listed
    module _ (l : OrderList) (walks : Walks b v (length w) (length o) (Ok l)) where
      lists : record { fault = None; orders = listed l } ≡ here
      lists = rw read at walks ∙ walked-here

      pub walk-fits : 0 + length (listed l) ≤ length o
      walk-fits = omega (arith, ap (λ (p : Plan). length p.orders) lists, fits)

      pub walk-lists : (after : List Order) → after ≡ stored o 0 (listed l) → AnswersWalk b w o (Ok (length (listed l))) after
      unfolding answer_fault
      walk-lists after is-after =
          record {
            answer = ap (λ (p : Plan). Ok (length p.orders)) lists ∙ walked-count (walk_for b w o) (plan_for b w) (ap (λ (p : Plan). p.fault) (sym lists));
            orders = is-after ∙ over-by None o (listed l) (listed l) refl ∙ ap (λ (p : Plan). over p.orders o) lists ∙ written;
          }

    -- where the walk is refused
    pub walk-refused : (f : Fault) → Walks b v (length w) (length o) (Err f) → AnswersWalk b w o (Err f) o
    walk-refused f walks =
        let none : record { fault = Some f; orders = [] } ≡ here = rw read at walks ∙ walked-here in
        record {
          answer = ap (λ (d : Option Fault). ok_unless d (walk_count b w)) (ap (λ (p : Plan). p.fault) none ∙ draws);
          orders = ap (λ (p : Plan). over p.orders o) none ∙ written;
        }
