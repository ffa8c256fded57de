-- The walk over weights. Assumes nothing.
use Prim.Native.Nat.{ℕ, suc, ◌+◌, ◌≤◌, ◌<◌}
use mathlib.Core.Path.{◌≡◌, refl, ap, ap₂, sym, ◌∙◌}
use mathlib.Core.Bool.{Bool, true, false}
use mathlib.Core.List.{List, [], ◌∷◌, ◌++◌, append_assoc, append-nil}
use Rattle.std.specs.declared.option.Option.{Option}
use Rattle.std.specs.declared.option.Option.TheVariants.{None, Some}
use Rattle.std.specs.Prelude.{option_map}
use native.Mathlib.Omega.{arith}
use native.Mathlib.Numerals.{add-one}
use lib.Ieee as Ieee
use lib.Ieee.{Float, nan, inf, fin}
use Rattle.std.specs.Float.{float_with_sign}
use lib.ListN.{length, drop, get_or, drop_of_length-le}
use lib.Seq.{drop-cons}
use Rattle.market.specs.declared.order.Order.{Order}
use Rattle.market.specs.declared.weight.Weight.{Weight}
use Rattle.market.proofs.Weights.{no_weight}
use Rattle.costs.specs.Kept.{costs_of}
use Rattle.market.specs.Quotes.{row_at}
use Rattle.market.specs.declared.quote.Quote.{Quote}
use Rattle.rules.specs.Amounts as Amounts
use Rattle.rules.specs.Amounts.{is_zero, minus, times}
use Rattle.rules.specs.Money.{Money, or_zero}
use Rattle.rules.specs.Values.{value_of}
use Rattle.portfolio.specs.State.{money_of}
use Rattle.portfolio.specs.declared.state.Portfolio.{Portfolio}
use Rattle.rules.specs.Weights.{shares_for, order_for, orders_at, row_orders, then_rows, difference, wanted}
use Rattle.portfolio.specs.Lists.{no_orders, listed, with_order}
use Rattle.portfolio.specs.declared.list.OrderList.{OrderList}
use Rattle.portfolio.proofs.Listing.{Wide, none-wide, none-listed, none-count, with-listed, with-wide, with-few}

-- the size of shares that are not zero is what the library's `abs` answers
pub sized : (x : Float) → is_zero x ≡ false → float_with_sign false x ≡ Amounts.size x
unfolding Ieee.lt Ieee.eq Ieee.neg Ieee.of_bits float_with_sign
sized nan e = refl
sized (inf true) e = refl
sized (inf false) e = refl
sized (fin true m k) e = grind arith
sized (fin false m k) e = grind arith

-- ---- the walk: the orders so far, and those of the weights that are left, are the whole

-- the orders of one weight
abbrev orders_of : Money → Float → Weight → Option (List Order)
orders_of m v w = row_orders m (difference m v w) w

module _ (m : Money) (v : Float) (w : Weight) (l : List Weight) where
  walk_ends : is_zero (difference m v w) ≡ true → wanted m v (w ∷ l) ≡ Some []
  unfolding wanted
  walk_ends t = rw t

  walk-goes : is_zero (difference m v w) ≡ false → wanted m v (w ∷ l) ≡ then_rows (orders_of m v w) (wanted m v l)
  unfolding wanted
  walk-goes t = rw t

wanted-none : (m : Money) (v : Float) → wanted m v [] ≡ Some []
unfolding wanted
wanted-none m v = refl

-- rows behind rows
then-all : (x : Option (List Order)) → then_rows (Some []) x ≡ x
then-all None = refl
then-all (Some l) = refl

then-nil : (k : List Order) → then_rows (Some k) (Some []) ≡ Some k
then-nil k = ap (λ (l : List Order). Some l) (append-nil k)

then-more : (k l : List Order) (x : Option (List Order)) → then_rows (Some (k ++ l)) x ≡ then_rows (Some k) (then_rows (Some l) x)
then-more k l None = refl
then-more k l (Some m) = ap (λ (j : List Order). Some j) (append_assoc k l m)

pub record WalkAt (m : Money) (v : Float) (rows : List Weight) (list : OrderList) (i : ℕ) : Type 0 where
  pub wide : Wide list
  pub few : list.count ≤ i
  pub rest : then_rows (Some (listed list)) (wanted m v (drop i rows)) ≡ wanted m v rows

pub walk-starts : (m : Money) (v : Float) (rows : List Weight) (list : OrderList) → list ≡ no_orders → WalkAt m v rows list 0
walk-starts m v rows list e =
    record {
      wide = ap (λ (l : OrderList). length l.orders) e ∙ none-wide;
      few = omega (arith, ap (λ (l : OrderList). l.count) e, none-count);
      rest = ap (λ (l : List Order). then_rows (Some l) (wanted m v rows)) (ap listed e ∙ none-listed) ∙ then-all (wanted m v rows);
    }

module _ {m : Money} {v : Float} {rows : List Weight} {list : OrderList} {i : ℕ} (a : WalkAt m v rows list i) where
  -- no order is left
  walk-done : wanted m v (drop i rows) ≡ Some [] → Some (listed list) ≡ wanted m v rows
  walk-done e = sym (ap (then_rows (Some (listed list))) e ∙ then-nil (listed list)) ∙ a.rest

  pub walk_end : length rows ≤ i → Some (listed list) ≡ wanted m v rows
  walk_end h = walk-done (ap (wanted m v) (drop_of_length-le rows h) ∙ wanted-none m v)

  module _ (h : i < length rows) where
    abbrev here : Weight
    here = get_or rows i no_weight

    abbrev later : Option (List Order)
    later = wanted m v (drop (suc i) rows)

    weight-first : drop i rows ≡ here ∷ drop (suc i) rows
    weight-first = drop-cons rows i no_weight h

    pub walk-stops : is_zero (difference m v here) ≡ true → Some (listed list) ≡ wanted m v rows
    walk-stops t = walk-done (ap (wanted m v) weight-first ∙ walk_ends m v here (drop (suc i) rows) t)

    module _ (t : is_zero (difference m v here) ≡ false) where
      -- the walk from here: this row's orders, then those of the rows behind it
      from-here : then_rows (Some (listed list)) (then_rows (orders_of m v here) later) ≡ wanted m v rows
      from-here = ap (then_rows (Some (listed list))) (sym (ap (wanted m v) weight-first ∙ walk-goes m v here (drop (suc i) rows) t)) ∙ a.rest

      -- the lot does not round this row's quotient
      pub walk-breaks : None ≡ orders_of m v here → None ≡ wanted m v rows
      walk-breaks e = ap (λ (o : Option (List Order)). then_rows (Some (listed list)) (then_rows o later)) e ∙ from-here

      goes_on : (list' : OrderList) (new : List Order) → Wide list' → list'.count ≤ i + 1 →
          Some new ≡ orders_of m v here → listed list' ≡ listed list ++ new → WalkAt m v rows list' (i + 1)
      goes_on list' new wide few o e =
          record {
            wide = wide;
            few = few;
            rest =
                rw (add-one i)
                (ap (λ (l : List Order). then_rows (Some l) later) e
                ∙ then-more (listed list) new later
                ∙ ap (λ (x : Option (List Order)). then_rows (Some (listed list)) (then_rows x later)) o
                ∙ from-here);
          }

      module _ (list' : OrderList) where
        -- the symbol is unquoted, or no shares are wanted
        pub walk-lists-none : Some [] ≡ orders_of m v here → list' ≡ list → WalkAt m v rows list' (i + 1)
        walk-lists-none o e =
            goes_on list' [] (ap (λ (l : OrderList). length l.orders) e ∙ a.wide) (omega (arith, a.few, ap (λ (l : OrderList). l.count) e)) o
            (ap listed e ∙ sym (append-nil (listed list)))

        pub walk-lists : i < 256 → (order : Order) → Some (order ∷ []) ≡ orders_of m v here → list' ≡ with_order list order → WalkAt m v rows list' (i + 1)
        walk-lists k order o e =
            goes_on list' (order ∷ []) (ap (λ (l : OrderList). length l.orders) e ∙ with-wide list order a.wide)
            (omega (arith, a.few, with-few list order, ap (λ (l : OrderList). l.count) e)) o
            (ap listed e ∙ with-listed list order a.wide (omega (arith, a.few)))

-- ---- a row, by what the code read of it: its position's value x, and its symbol's latest row q

module _ (p : Portfolio) (v : Float) (w : Weight) (x : Float) where
  pub zero-read : (b : Bool) → x ≡ or_zero (value_of (money_of p) w.symbol) → is_zero (minus (times v w.weight) x) ≡ b →
      is_zero (difference (money_of p) v w) ≡ b
  zero-read b e t = sym (ap (λ (y : Float). is_zero (minus (times v w.weight) y)) e) ∙ t

  row-read : (q : Option Quote) → x ≡ or_zero (value_of (money_of p) w.symbol) → q ≡ row_at p.latest w.symbol →
      orders_at p.lot (costs_of p.costs) w.symbol (minus (times v w.weight) x) q ≡ orders_of (money_of p) v w
  row-read q e f = ap₂ (λ (y : Float) (r : Option Quote). orders_at p.lot (costs_of p.costs) w.symbol (minus (times v w.weight) y) r) e f

  -- the symbol is unquoted: no order
  pub unquoted-read : x ≡ or_zero (value_of (money_of p) w.symbol) → None ≡ row_at p.latest w.symbol → Some [] ≡ orders_of (money_of p) v w
  unquoted-read e f = row-read None e f

  -- else the order that the shares come to, where they are not missing
  pub quoted-read : (q : Quote) (s : Option Float) → x ≡ or_zero (value_of (money_of p) w.symbol) → Some q ≡ row_at p.latest w.symbol →
      s ≡ shares_for p.lot (costs_of p.costs) (minus (times v w.weight) x) q → option_map (order_for w.symbol) s ≡ orders_of (money_of p) v w
  quoted-read q s e f g = ap (option_map (order_for w.symbol)) g ∙ row-read (Some q) e f
