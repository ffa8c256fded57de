-- Lists of orders: an order more, and one side of a list behind the orders of another. Assumes nothing.
use Prim.Native.Nat.{ℕ, ◌+◌, ◌≤◌, ◌<◌}
use mathlib.Core.Path.{◌≡◌, refl, ap, sym, ◌∙◌}
use mathlib.Core.Bool.{Bool, true, false, cond, beq}
use mathlib.Core.List.{List, [], ◌∷◌, ◌++◌, append_assoc, append-nil}
use native.Mathlib.Omega.{arith}
use native.Mathlib.Numerals.{add-one}
use lib.Dec.{ltb}
use lib.Ieee.{nan}
use lib.ListN.{length, take, set, get_or, length-take, length-set, length-append, length-replicate}
use lib.Seq.{take_all, take-suc-set, take-append-le, length-take-le}
use borrow.Author.Tests.{lt-ltb, ltb-true, ltb-false}
use Rattle.lists.specs.Lists.{over}
use Rattle.lists.proofs.Over.{over-take, over-more, take-over}
use Rattle.std.specs.declared.option.Option.TheVariants.{None}
use Rattle.lists.proofs.Keep.{keep-more, keep-less}
use Rattle.market.specs.Orders.{blank_order, is_sell}
use Rattle.market.specs.declared.order.OrderType.TheVariants.{MarketSell}
use Rattle.market.specs.declared.order.Order.{Order}
use Rattle.orders.specs.Orders.{of_side, sells_first}
use Rattle.orders.proofs.Sides.{sides}
use Rattle.portfolio.specs.Lists.{no_orders, listed, with_order, onto_of}
use Rattle.portfolio.specs.declared.list.OrderList.{OrderList}

-- what a read past the end of a list gives; no code reads there
abbrev pub no_order : Order
no_order = record { kind = MarketSell; symbol = 0; shares = nan; price = None }

-- every array of a list has 256 places
abbrev pub Wide : OrderList → Type 0
Wide l = length l.orders ≡ 256

pub none-wide : Wide no_orders
unfolding no_orders
none-wide = length-replicate 256 blank_order

pub none-listed : listed no_orders ≡ []
unfolding no_orders
none-listed = refl

pub none-count : no_orders.count ≡ 0
unfolding no_orders
none-count = refl

-- ---- an order more

module _ (l : OrderList) (o : Order) where
  with-there : l.count < 256 → with_order l o ≡ record { orders = set l.orders l.count o; count = l.count + 1 }
  with-there h = rw (lt-ltb l.count 256 h)

  pub with-listed : Wide l → l.count < 256 → listed (with_order l o) ≡ listed l ++ (o ∷ [])
  with-listed w h =
      ap listed (with-there h) ∙ ap (λ (n : ℕ). take n (set l.orders l.count o)) (add-one l.count) ∙ take-suc-set l.orders l.count o (omega (arith, w))

  wide-by : (b : Bool) → Wide l → Wide (cond b (record { orders = set l.orders l.count o; count = l.count + 1 }) l)
  wide-by true w = length-set l.orders l.count o ∙ w
  wide-by false w = w

  pub with-wide : Wide l → Wide (with_order l o)
  with-wide w = wide-by (ltb l.count 256) w

  few-by : (b : Bool) → (cond b (record { orders = set l.orders l.count o; count = l.count + 1 }) l).count ≤ l.count + 1
  few-by true = omega arith
  few-by false = omega arith

  pub with-few : (with_order l o).count ≤ l.count + 1
  with-few = few-by (ltb l.count 256)

-- ---- orders behind those of a list, as far as there is place

pub onto-none : (l : OrderList) → Wide l → l.count ≤ 256 → l ≡ onto_of l []
unfolding onto_of
onto-none l w h =
    let e : take 256 (listed l ++ []) ≡ listed l = ap (take 256) (append-nil (listed l)) ∙ take_all 256 (listed l) (omega (arith, length-take l.count l.orders)) in
    let n : length (listed l) ≡ l.count = length-take-le l.count l.orders (omega (arith, w)) in
    sym (ap (λ (k : List Order). record { orders = over k l.orders; count = length k }) e
    ∙ ap (λ (k : List Order). record { orders = k; count = length (listed l) }) (over-take l.count l.orders)
    ∙ ap (λ (k : ℕ). record { orders = l.orders; count = k }) n)

onto-by : (l : OrderList) (k : List Order) (o : Order) (n : ℕ) → Wide l → n ≡ length (take 256 k) → (b : Bool) → ltb n 256 ≡ b →
    ◌≡◌ {A = OrderList} (cond b (record { orders = set (over (take 256 k) l.orders) n o; count = n + 1 }) (record { orders = over (take 256 k) l.orders; count = n }))
    (record { orders = over (take 256 (k ++ (o ∷ []))) l.orders; count = length (take 256 (k ++ (o ∷ []))) })
onto-by l k o n w e true t =
    let h : n < 256 = ltb-true n 256 t in
    let few : length k ≤ 256 = omega (arith, length-take 256 k) in
    let a : take 256 k ≡ k = take_all 256 k few in
    let m : n ≡ length k = e ∙ ap length a in
    let b : take 256 (k ++ (o ∷ [])) ≡ k ++ (o ∷ []) = take_all 256 (k ++ (o ∷ [])) (omega (arith, length-append k (o ∷ []))) in
    ap (λ (j : List Order). record { orders = set (over j l.orders) n o; count = n + 1 }) a
    ∙ ap (λ (j : List Order). record { orders = j; count = n + 1 }) (over-more k l.orders n o m (omega (arith, w)))
    ∙ ap (λ (j : ℕ). record { orders = over (k ++ (o ∷ [])) l.orders; count = j }) (ap (λ (j : ℕ). j + 1) m ∙ sym (length-append k (o ∷ [])))
    ∙ sym (ap (λ (j : List Order). record { orders = over j l.orders; count = length j }) b)
onto-by l k o n w e false t =
    let h : 256 ≤ n = ltb-false n 256 t in
    let b : take 256 (k ++ (o ∷ [])) ≡ take 256 k = take-append-le 256 k (o ∷ []) (omega (arith, length-take 256 k)) in
    ap (λ (j : ℕ). record { orders = over (take 256 k) l.orders; count = j }) e
    ∙ sym (ap (λ (j : List Order). record { orders = over j l.orders; count = length j }) b)

-- an order more behind them
pub onto-more : (l : OrderList) (m : List Order) (o : Order) → Wide l → with_order (onto_of l m) o ≡ onto_of l (m ++ (o ∷ []))
unfolding onto_of
onto-more l m o w =
    let k = listed l ++ m in
    onto-by l k o (length (take 256 k)) w refl (ltb (length (take 256 k)) 256) refl
    ∙ ap (λ (j : List Order). record { orders = over (take 256 j) l.orders; count = length (take 256 j) }) (append_assoc (listed l) m (o ∷ []))

-- ---- one side of a list put behind: one order, of that side or of the other

module _ (onto : OrderList) (sells : Bool) (l : List Order) (out : OrderList) (i : ℕ) where
  abbrev here : Order
  here = get_or l i no_order

  pub side-puts : Wide onto → out ≡ onto_of onto (of_side sells (take i l)) → i < length l → beq (is_sell here.kind) sells ≡ true →
      (out' : OrderList) → out' ≡ with_order out here → out' ≡ onto_of onto (of_side sells (take (i + 1) l))
  side-puts w v h t out' e =
      e ∙ ap (λ (o : OrderList). with_order o here) v
      ∙ onto-more onto (of_side sells (take i l)) here w
      ∙ ap (onto_of onto) (sym (keep-more (λ o. beq (is_sell o.kind) sells) l i no_order h t))

  pub side-passes : out ≡ onto_of onto (of_side sells (take i l)) → i < length l → beq (is_sell here.kind) sells ≡ false →
      out ≡ onto_of onto (of_side sells (take (i + 1) l))
  side-passes v h t = v ∙ ap (onto_of onto) (sym (keep-less (λ o. beq (is_sell o.kind) sells) l i no_order h t))

pub onto-few : (r l : OrderList) (m : List Order) → r ≡ onto_of l m → r.count ≤ 256
unfolding onto_of
onto-few r l m e = omega (arith, ap (λ (o : OrderList). o.count) e, length-take 256 (take l.count l.orders ++ m))

-- where there is a place for each, nothing is cut off
pub onto-listed : (l : OrderList) (m : List Order) → length (listed l) + length m ≤ 256 → listed (onto_of l m) ≡ listed l ++ m
unfolding onto_of
onto-listed l m h =
    let k = take 256 (listed l ++ m) in
    take-over k l.orders (length k) refl ∙ take_all 256 (listed l ++ m) (omega (arith, length-append (listed l) m))

-- both sides of a list put onto an empty one are its sales, then its buys
pub sides-listed : (list : OrderList) → Wide list →
    listed (onto_of (onto_of no_orders (of_side true (listed list))) (of_side false (listed list))) ≡ sells_first (listed list)
sides-listed list long =
    let sales = of_side true (listed list) in
    let buys = of_side false (listed list) in
    let few : length sales + length buys ≤ 256 = omega (arith, sides (listed list), length-take list.count list.orders) in
    let first : listed (onto_of no_orders sales) ≡ sales
    = onto-listed no_orders sales (omega (arith, ap length none-listed)) ∙ ap (λ (l : List Order). l ++ sales) none-listed in
    onto-listed (onto_of no_orders sales) buys (omega (arith, ap length first)) ∙ ap (λ (l : List Order). l ++ buys) first
