-- The loop that sells positions, and how many orders it lists. Assumes nothing.
use Prim.Native.Nat.{ℕ, ◌+◌, ◌≤◌, ◌<◌}
use mathlib.Core.Path.{◌≡◌, refl, ap, ap₂, sym, ◌∙◌}
use mathlib.Core.Bool.{Bool, true, false, cond}
use mathlib.Core.List.{List, [], ◌∷◌, ◌++◌, append_assoc, append-nil}
use Rattle.std.specs.declared.option.Option.{Option}
use Rattle.std.specs.declared.option.Option.TheVariants.{None, Some}
use Rattle.std.proofs.lemmas.Option.{none-some}
use native.Mathlib.Omega.{arith}
use borrow.Author.Tests.{not-true, not-false}
use lib.Ieee.{Float, ne}
use lib.ListN.{length}
use Rattle.lists.specs.Lists.{keep, given, holds}
use Rattle.market.specs.Orders.{zero64, market_order}
use Rattle.market.specs.declared.order.OrderType.TheVariants.{MarketSell}
use Rattle.market.specs.declared.order.Order.{Order}
use Rattle.market.specs.declared.quote.Quote.{Quote}
use Rattle.rules.specs.Amounts.{minus, below, at_most, is_zero}
use Rattle.rules.specs.Money.{Money, or_zero, unless_zero}
use Rattle.rules.specs.Values.{symbols, value_of, liquidation_value}
use Rattle.rules.specs.Liquidation.{Sales, selling, last_sale, sales_from, sales_for}
use Rattle.portfolio.specs.Lists.{no_orders, listed, with_order}
use Rattle.portfolio.specs.Liquidate.{part_in, sold_in, succeeds, is_held, held_count}
use Rattle.portfolio.specs.declared.list.OrderList.{OrderList}
use Rattle.portfolio.specs.declared.liquidate.Part.{Part}
use Rattle.portfolio.proofs.Symbols.{rest, rest-start, rest-cons, rest_end}
use Rattle.portfolio.proofs.Listing.{Wide, none-wide, none-listed, none-count, with-listed, with-wide, with-few}

-- ---- the walk at one position

module _ (m : Money) (s : ℕ) (l : List ℕ) (r : Float) where
  -- by whether its value v is at or below the rest, and by what is held of it
  abbrev held-step : Bool → Float → Float → Sales
  held-step b v h = cond b (selling s h (sales_from m l (minus r v))) (last_sale (m.latest s) s r)

  abbrev step : Option Float → Bool → Float → Sales
  step o b v = given o (sales_from m l r) (held-step b v)

  sell-step : (o : Option Float) (v : Float) → m.held s ≡ o → v ≡ or_zero (value_of m s) → sales_from m (s ∷ l) r ≡ step o (at_most v r) v
  unfolding sales_from
  sell-step o v e w = ap₂ (λ (x : Option Float) (y : Float). step x (at_most y r) y) e (sym w)

  sell-past : m.held s ≡ None → sales_from m (s ∷ l) r ≡ sales_from m l r
  sell-past e = sell-step None (or_zero (value_of m s)) e refl

  sell-held : (b : Bool) (h v : Float) → m.held s ≡ Some h → v ≡ or_zero (value_of m s) → at_most v r ≡ b → sales_from m (s ∷ l) r ≡ held-step b v h
  sell-held b h v e w t = sell-step (Some h) v e w ∙ ap (λ (c : Bool). held-step c v h) t

-- ---- at most one order for each held symbol

few-last : (q : Option Quote) (s : ℕ) (r : Float) → length (last_sale q s r).orders ≤ 1
few-last None s r = omega arith
few-last (Some q) s r = omega arith

few-step : (m : Money) (s : ℕ) (l : List ℕ) (r v : Float) (o : Option Float) (b : Bool) (k : List ℕ) →
    ((x : Float) → length (sales_from m l x).orders ≤ length k) → length (step m s l r o b v).orders ≤ length (cond (succeeds o) (s ∷ k) k)
few-step m s l r v None b k f = f r
few-step m s l r v (Some h) true k f = omega (arith, f (minus r v))
few-step m s l r v (Some h) false k f = omega (arith, few-last (m.latest s) s r)

pub sell-few : (m : Money) (l : List ℕ) (r : Float) → length (sales_from m l r).orders ≤ length (keep (is_held m) l)
unfolding sales_from
sell-few m [] r = omega arith
sell-few m (s ∷ l) r =
    let v = or_zero (value_of m s) in
    few-step m s l r v (m.held s) (at_most v r) (keep (is_held m) l) (λ x. sell-few m l x)

few-by : (b c : Bool) (x l : List Order) (k : ℕ) → length x ≤ k → cond b None (cond c (Some x) None) ≡ Some l → length l ≤ k
few-by true c x l k h e = absurd (let z : ◌≡◌ {A = ℕ} 0 1 = cc in omega arith)
few-by false false x l k h e = absurd (let z : ◌≡◌ {A = ℕ} 0 1 = cc in omega arith)
few-by false true x l k h e = let z : x ≡ l = cc in omega (arith, ap length z)

pub sales-few : (m : Money) (a : Float) (l : List Order) → sales_for m a ≡ Some l → length l ≤ held_count m
unfolding sales_for held_count
sales-few m a l e = few-by (below (liquidation_value m) a) (is_zero (sales_from m symbols a).rest) (sales_from m symbols a).orders l _ (sell-few m symbols a) e

-- ---- the loop

-- the code's test of a holding
pub is-held : (x : Float) → ne x zero64 ≡ true → is_zero x ≡ false
unfolding ne
is-held x e = not-true (is_zero x) e

pub not-held : (x : Float) → ne x zero64 ≡ false → is_zero x ≡ true
unfolding ne
not-held x e = not-false (is_zero x) e

abbrev sales : List Order → Float → Sales
sales l r = record { orders = l; rest = r }

-- a list of orders, then a walk's
abbrev pub after : List Order → Sales → Sales
after l w = sales (l ++ w.orders) w.rest

after_more : (l : List Order) (o : Order) (w : Sales) → after (l ++ (o ∷ [])) w ≡ after l (sales (o ∷ w.orders) w.rest)
after_more l o w = ap (λ (x : List Order). sales x w.rest) (append_assoc l (o ∷ []) w.orders)

-- the orders so far, then those of the walk over the symbols from i on, are those of the whole walk, with the same rest
pub record Selling (m : Money) (amount : Float) (list : OrderList) (r : Float) (i : ℕ) : Type 0 where
  pub within : i ≤ 256
  pub few : list.count ≤ i
  pub wide : Wide list
  pub left : after (listed list) (sales_from m (rest i) r) ≡ sales_from m symbols amount

-- where the loop is left, with the last order if there is one
pub record Stopped (m : Money) (amount : Float) (list : OrderList) (part : Part) : Type 0 where
  pub wide : Wide list
  pub room : (o : Order) → part.order ≡ Some o → list.count < 256
  pub left : after (listed list) (part_in part) ≡ sales_from m symbols amount

module _ (m : Money) (amount : Float) where
  pub selling-starts : (list : OrderList) → list ≡ no_orders → Selling m amount list amount 0
  selling-starts list e =
      record {
        within = omega arith;
        few = omega (arith, ap (λ (l : OrderList). l.count) e, none-count);
        wide = ap (λ (l : OrderList). length l.orders) e ∙ none-wide;
        left =
            ap (λ (l : List Order). after l (sales_from m (rest 0) amount)) (ap listed e ∙ none-listed)
            ∙ ap (λ (l : List ℕ). sales_from m l amount) rest-start;
      }

sell-end : (m : Money) (i : ℕ) (r : Float) → i ≡ 256 → sales_from m (rest i) r ≡ sales [] r
unfolding sales_from
sell-end m i r e = ap (λ (j : ℕ). sales_from m (rest j) r) e ∙ ap (λ (l : List ℕ). sales_from m l r) rest_end

module _ {m : Money} {amount : Float} {list : OrderList} {r : Float} {i : ℕ} (v : Selling m amount list r i) where
  pub selling-ends : (part : Part) → 256 ≤ i → part ≡ record { order = None; rest = r } → Stopped m amount list part
  selling-ends part h e =
      record {
        wide = v.wide;
        room = λ o t. absurd (none-some o (sym (ap (λ (p : Part). p.order) e) ∙ t));
        left = ap (after (listed list)) (ap part_in e ∙ sym (sell-end m i r (omega (arith, v.within)))) ∙ v.left;
      }

  module _ (h : i < 256) where
    -- the whole walk, with the position at i apart
    at_here : after (listed list) (sales_from m (i ∷ rest (i + 1)) r) ≡ sales_from m symbols amount
    at_here = ap (λ (l : List ℕ). after (listed list) (sales_from m l r)) (sym (rest-cons i h)) ∙ v.left

    held_by : (x : Float) (b : Bool) → unless_zero x ≡ m.held i → is_zero x ≡ b → m.held i ≡ cond b None (Some x)
    held_by x b e z = sym e ∙ ap (λ (c : Bool). cond c None (Some x)) z

    -- nothing held: the position is passed over
    pub passes : (x : Float) → unless_zero x ≡ m.held i → is_zero x ≡ true → (list' : OrderList) (r' : Float) → list' ≡ list → r' ≡ r →
        Selling m amount list' r' (i + 1)
    passes x e z list' r' el er =
        record {
          within = omega arith;
          few = omega (arith, v.few, ap (λ (l : OrderList). l.count) el);
          wide = ap (λ (l : OrderList). length l.orders) el ∙ v.wide;
          left =
              ap₂ (λ (l : OrderList) (y : Float). after (listed l) (sales_from m (rest (i + 1)) y)) el er
              ∙ ap (after (listed list)) (sym (sell-past m i (rest (i + 1)) r (held_by x true e z)))
              ∙ at_here;
        }

    -- a value at or below the rest is sold whole and subtracted
    pub sells : (x w : Float) (o : Order) → unless_zero x ≡ m.held i → is_zero x ≡ false → w ≡ or_zero (value_of m i) → at_most w r ≡ true →
        o ≡ market_order MarketSell i x → (list' : OrderList) (r' : Float) → list' ≡ with_order list o → r' ≡ minus r w → Selling m amount list' r' (i + 1)
    sells x w o e z ew t eo list' r' el er =
        record {
          within = omega arith;
          few = omega (arith, v.few, with-few list o, ap (λ (l : OrderList). l.count) el);
          wide = ap (λ (l : OrderList). length l.orders) el ∙ with-wide list o v.wide;
          left =
              ap (λ (l : List Order). after l (sales_from m (rest (i + 1)) r')) (ap listed el ∙ with-listed list o v.wide (omega (arith, v.few)))
              ∙ after_more (listed list) o (sales_from m (rest (i + 1)) r')
              ∙ ap₂ (λ (y : Order) (z : Float). after (listed list) (sales (y ∷ (sales_from m (rest (i + 1)) z).orders) (sales_from m (rest (i + 1)) z).rest)) eo er
              ∙ ap (after (listed list)) (sym (sell-held m i (rest (i + 1)) r true x w (held_by x false e z) ew t))
              ∙ at_here;
        }

    -- the walk stops at the first position whose value is not
    pub stops : (x w : Float) (part : Part) → unless_zero x ≡ m.held i → is_zero x ≡ false → w ≡ or_zero (value_of m i) → at_most w r ≡ false →
        part_in part ≡ last_sale (m.latest i) i r → Stopped m amount list part
    stops x w part e z ew t p =
        record {
          wide = v.wide;
          room = λ o s. omega (arith, v.few);
          left =
              ap (after (listed list)) (p ∙ sym (sell-held m i (rest (i + 1)) r false x w (held_by x false e z) ew t))
              ∙ at_here;
        }

-- ---- the list that the loop leaves

module _ {m : Money} {amount : Float} {list : OrderList} {part : Part} (v : Stopped m amount list part) where
  pub sold-last : (o : Order) → part.order ≡ Some o → (list' : OrderList) → list' ≡ with_order list o →
      sold_in (record { list = list'; rest = part.rest }) ≡ sales_from m symbols amount
  sold-last o t list' e =
      ap (λ (l : List Order). sales l part.rest)
      (ap listed e ∙ with-listed list o v.wide (v.room o t) ∙ ap (λ (y : Option Order). listed list ++ holds y) (sym t))
      ∙ v.left

  pub sold-whole : part.order ≡ None → sold_in (record { list = list; rest = part.rest }) ≡ sales_from m symbols amount
  sold-whole t =
      ap (λ (l : List Order). sales l part.rest) (sym (append-nil (listed list)) ∙ ap (λ (y : Option Order). listed list ++ holds y) (sym t))
      ∙ v.left
