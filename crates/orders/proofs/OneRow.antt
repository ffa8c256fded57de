-- The rows of the log and the orders that have traded match one to one: the step of a call. Assumes nothing.
use Prim.Native.Nat.{ℕ, zero, suc, ◌+◌, ◌≤◌}
use native.Mathlib.Omega.{arith}
use mathlib.Core.Bool.{Bool, true, false, cond}
use mathlib.Core.Path.{◌≡◌, refl, ◌∙◌, sym, ap, ap₂, subst}
use mathlib.Core.List.{List, [], ◌∷◌, ◌++◌, map}
use Rattle.std.specs.declared.option.Option.{Option}
use Rattle.std.specs.declared.option.Option.TheVariants.{None, Some}
use lib.ListN.{length, length-append}
use Rattle.std.specs.Prelude.{slice_get}
use Rattle.std.proofs.lemmas.Option.{none-some, same_Some}
use Rattle.lists.specs.Lists.{gather, each}
use Rattle.market.specs.declared.trade.Trade.{Trade}
use Rattle.orders.specs.Orders.{Taken, traded, deleted, Fate, resting, ended, Entry, Orders, ended_by, trade_end, fresh}
use Rattle.orders.specs.Claim.{Calls, row_from, Within, TradedAs, OneRowEach, trade_in, end_in, books_of}
use Rattle.orders.proofs.Shape.{ended-stays, moved_by, row_now, Shape}
use Rattle.orders.proofs.Fates.{Apart, no-deletion}
use Rattle.orders.proofs.Within.{at_left, at_right, at-either, at_each, each_at, at-mapped, within-left, within-right}

-- at the start there are no rows, and nothing has traded
pub no_rows : OneRowEach [] []
no_rows =
    record {
      who = [];
      each_row = refl;
      its-order = λ k n e. grind arith;
      no-two = λ j k n a b. grind arith;
      none-missing = λ n x t. absurd (none-some t.entry t.there);
    }

-- the number i, once for each row
abbrev beside : ℕ → List Trade → List ℕ
beside i l = map (λ x. i) l

module _ (K : Calls) (c : K.Call) where
  -- the numbers of the orders that trade in the call, from the number i on
  abbrev who_from : ℕ → List Entry → List ℕ
  who_from i [] = []
  who_from i (e ∷ l) = beside i (row_now K c i e) ++ who_from (suc i) l

  abbrev rows_from : ℕ → List Entry → List Trade
  rows_from i l = gather (λ k. k) (each (row_now K c) i l)

  -- an order that rested and trades in the call
  record Trades (l : List Entry) (n : ℕ) (x : Trade) : Type 0 where
    pub entry : Entry
    pub there : slice_get l n ≡ Some entry
    pub rested : entry.fate ≡ resting
    pub row : trade_in K entry.taken c ≡ Some x

  -- ---- one entry: it has a row where it rested and trades

  as_many : (f : Fate) (x : Option Trade) (i : ℕ) → length (beside i (row_from f x)) ≡ length (row_from f x)
  as_many resting None i = refl
  as_many resting (Some x) i = refl
  as_many (ended y) x i = refl

  one-row : (f : Fate) (x : Option Trade) (i k n : ℕ) → slice_get (beside i (row_from f x)) k ≡ Some n →
      (y : Trade) × (f ≡ resting) × (x ≡ Some y) × (slice_get (row_from f x) k ≡ Some y) × (i ≡ n) × (k ≡ 0)
  one-row resting None i k n e = grind arith
  one-row resting (Some x) i zero n e = (x, refl, refl, refl, same_Some i n e, refl)
  one-row resting (Some x) i (suc k) n e = grind arith
  one-row (ended y) x i k n e = grind arith

  has-row : (f : Fate) (x : Option Trade) (y : Trade) (i : ℕ) → f ≡ resting → x ≡ Some y → Within i (beside i (row_from f x))
  has-row resting None y i e t = absurd (none-some y t)
  has-row resting (Some x) y i e t = (0, refl)
  has-row (ended z) x y i e t = grind arith

  -- ---- all entries

  as-many-all : (i : ℕ) (l : List Entry) → length (who_from i l) ≡ length (rows_from i l)
  as-many-all i [] = refl
  as-many-all i (e ∷ l) =
      grind (arith, length-append, as_many e.fate (trade_in K e.taken c) i, as-many-all (suc i) l)

  -- the k-th number is that of the k-th row's order, which rested; numbers start at i
  record Found (i : ℕ) (l : List Entry) (k n : ℕ) : Type 0 where
    pub at : ℕ
    pub number_is : i + at ≡ n
    pub row : Trade
    pub row-there : slice_get (rows_from i l) k ≡ Some row
    pub trades : Trades l at row

  found : (i : ℕ) (l : List Entry) (k n : ℕ) → slice_get (who_from i l) k ≡ Some n → Found i l k n
  found i [] k n e = grind arith
  found i (e ∷ l) k n h =
      let r = row_now K c i e in
      let m = as_many e.fate (trade_in K e.taken c) i in
      at-either (beside i r) (who_from (suc i) l) k n (Found i (e ∷ l) k n) h
      (λ a.
      let o = one-row e.fate (trade_in K e.taken c) i k n a in
      record {
        at = 0;
        number_is = omega (arith, o.4);
        row = o.0;
        row-there = at_left r (rows_from (suc i) l) k o.0 o.3;
        trades = record { entry = e; there = refl; rested = o.1; row = o.2 };
      })
      (λ j s a.
      let f = found (suc i) l j n a in
      record {
        at = suc f.at;
        number_is = omega (arith, f.number_is);
        row = f.row;
        row-there = at_right r (rows_from (suc i) l) j k f.row (omega (arith, s, m)) f.row-there;
        trades = record { entry = f.trades.entry; there = f.trades.there; rested = f.trades.rested; row = f.trades.row };
      })

  found-low : (i : ℕ) (l : List Entry) (k n : ℕ) → slice_get (who_from i l) k ≡ Some n → i ≤ n
  found-low i l k n h = let f = found i l k n h in omega (arith, f.number_is)

  -- no number twice: they ascend
  no-two-from : (i : ℕ) (l : List Entry) (j k n : ℕ) → slice_get (who_from i l) j ≡ Some n → slice_get (who_from i l) k ≡ Some n → j ≡ k
  no-two-from i [] j k n a b = grind arith
  no-two-from i (e ∷ l) j k n a b =
      let r = row_now K c i e in
      let x₀ = trade_in K e.taken c in
      at-either (beside i r) (who_from (suc i) l) j n (j ≡ k) a
      (λ x.
      at-either (beside i r) (who_from (suc i) l) k n (j ≡ k) b
      (λ y. (one-row e.fate x₀ i j n x).5 ∙ sym (one-row e.fate x₀ i k n y).5)
      (λ q s y. absurd (omega (arith, (one-row e.fate x₀ i j n x).4, found-low (suc i) l q n y))))
      (λ p s x.
      at-either (beside i r) (who_from (suc i) l) k n (j ≡ k) b
      (λ y. absurd (omega (arith, (one-row e.fate x₀ i k n y).4, found-low (suc i) l p n x)))
      (λ q t y. omega (arith, s, t, no-two-from (suc i) l p q n x y)))

  -- each that rested and trades is among them
  among : (i : ℕ) (l : List Entry) (at n : ℕ) (x : Trade) → i + at ≡ n → Trades l at x → Within n (who_from i l)
  among i [] at n x s t = absurd (none-some t.entry t.there)
  among i (e ∷ l) zero n x s t =
      let same = same_Some e t.entry t.there in
      let w = has-row e.fate (trade_in K e.taken c) x i (ap (λ d. d.fate) same ∙ t.rested) (ap (λ d. trade_in K d.taken c) same ∙ t.row) in
      rw (sym s) (rw (native-zero i) (within-left (beside i (row_now K c i e)) (who_from (suc i) l) i w))
    where
      native-zero : (m : ℕ) → m + 0 ≡ m
      native-zero m = omega arith
  among i (e ∷ l) (suc at) n x s t =
      within-right (beside i (row_now K c i e)) (who_from (suc i) l) n
      (among (suc i) l at n x (omega arith) (record { entry = t.entry; there = t.there; rested = t.rested; row = t.row }))

-- ---- a call more

from_zero : (n : ℕ) → 0 + n ≡ n
from_zero n = omega arith

module _ (K : Calls) (apart : Apart K) (L M : Orders) (c : K.Call) (new : List Taken) (s : Shape K L c new M) (h : OneRowEach L.trades L.booked) where
  abbrev moved : List Entry
  moved = each (moved_by K c) 0 L.booked

  abbrev booked-now : List Entry
  booked-now = map fresh (books_of K c L.waiting)

  abbrev later : List ℕ
  later = who_from K c 0 L.booked

  -- an entry after the call
  at_moved : (n : ℕ) (e : Entry) → slice_get L.booked n ≡ Some e → slice_get M.booked n ≡ Some (moved_by K c n e)
  at_moved n e p = rw s.booked (at_left moved booked-now n (moved_by K c n e) (at_each (moved_by K c) 0 n n L.booked e (from_zero n) p))

  -- one that has traded stays so
  stays-traded : (n : ℕ) (x : Trade) → TradedAs L.booked n x → TradedAs M.booked n x
  stays-traded n x t =
      record {
        entry = moved_by K c n t.entry;
        there = at_moved n t.entry t.there;
        has-traded = ap (ended_by (end_in K t.entry.taken n c)) t.has-traded ∙ ended-stays (end_in K t.entry.taken n c) (traded x);
      }

  -- one that rested and trades has traded
  now-traded : (n : ℕ) (x : Trade) → Trades K c L.booked n x → TradedAs M.booked n x
  now-traded n x t =
      let w = t.entry.taken in
      record {
        entry = moved_by K c n t.entry;
        there = at_moved n t.entry t.there;
        has-traded = grind (arith, t.rested, t.row, no-deletion K apart w n c x t.row);
      }

  -- and no other has
  before-or-now : (f : Fate) (b : Bool) (y : Option Trade) (x : Trade) (P : Type 0) → ended_by (cond b (Some deleted) (trade_end y)) f ≡ ended (traded x) →
      (f ≡ ended (traded x) → P) → (f ≡ resting → y ≡ Some x → P) → P
  before-or-now (ended z) b y x P e old now = old (sym (ended-stays (cond b (Some deleted) (trade_end y)) z) ∙ e)
  before-or-now resting true y x P e old now = grind arith
  before-or-now resting false None x P e old now = grind arith
  before-or-now resting false (Some y) x P e old now = now refl (grind arith)

  missing-none : (n : ℕ) (x : Trade) → TradedAs M.booked n x → Within n (h.who ++ later)
  missing-none n x t =
      at-either moved booked-now n t.entry (Within n (h.who ++ later)) (rw (sym s.booked) t.there)
      (λ p.
      let o = each_at (moved_by K c) 0 n n L.booked t.entry (from_zero n) p in
      let e = o.0 in
      before-or-now e.fate (K.deletes n c) (trade_in K e.taken c) x (Within n (h.who ++ later)) (ap (λ d. d.fate) (sym o.2) ∙ t.has-traded)
      (λ old. within-left h.who later n (h.none-missing n x (record { entry = e; there = o.1; has-traded = old })))
      (λ r y. within-right h.who later n (among K c 0 L.booked n n x (from_zero n) (record { entry = e; there = o.1; rested = r; row = y }))))
      (λ k q p.
      let o = at-mapped fresh (books_of K c L.waiting) k t.entry p in
      let g = ap (λ d. d.fate) o.1 ∙ t.has-traded in grind arith)

  -- an order has one row: those of before have ended, those of now rested
  apart-rows : (j k n : ℕ) → slice_get h.who j ≡ Some n → slice_get later k ≡ Some n → ⊥
  apart-rows j k n a b =
      let old = (h.its-order j n a).2 in
      let f = found K c 0 L.booked k n b in
      let at : slice_get L.booked n ≡ Some f.trades.entry = ap (slice_get L.booked) (sym f.number_is ∙ from_zero f.at) ∙ f.trades.there in
      let same = same_Some old.entry f.trades.entry (sym old.there ∙ at) in
      let g : ended (traded (h.its-order j n a).0) ≡ resting = sym old.has-traded ∙ ap (λ d. d.fate) same ∙ f.trades.rested in
      grind arith

  two_none : (j k n : ℕ) → slice_get (h.who ++ later) j ≡ Some n → slice_get (h.who ++ later) k ≡ Some n → j ≡ k
  two_none j k n a b =
      at-either h.who later j n (j ≡ k) a
      (λ x.
      at-either h.who later k n (j ≡ k) b
      (λ y. h.no-two j k n x y)
      (λ q t y. absurd (apart-rows j q n x y)))
      (λ p u x.
      at-either h.who later k n (j ≡ k) b
      (λ y. absurd (apart-rows k p n y x))
      (λ q t y. omega (arith, u, t, no-two-from K c 0 L.booked p q n x y)))

  order-of : (k n : ℕ) → slice_get (h.who ++ later) k ≡ Some n → (x : Trade) × (slice_get M.trades k ≡ Some x) × TradedAs M.booked n x
  order-of k n a =
      at-either h.who later k n ((x : Trade) × (slice_get M.trades k ≡ Some x) × TradedAs M.booked n x) a
      (λ p.
      let o = h.its-order k n p in
      (o.0, rw s.trades (at_left L.trades (rows_from K c 0 L.booked) k o.0 o.1), stays-traded n o.0 o.2))
      (λ j q p.
      let f = found K c 0 L.booked j n p in
      let t : Trades K c L.booked n f.row = subst-number f.at n f.row f.number_is f.trades in
      (f.row, rw s.trades (at_right L.trades (rows_from K c 0 L.booked) j k f.row (omega (arith, q, h.each_row)) f.row-there), now-traded n f.row t))
    where
      subst-number : (m n : ℕ) (x : Trade) → 0 + m ≡ n → Trades K c L.booked m x → Trades K c L.booked n x
      subst-number m n x e t = subst (λ k. Trades K c L.booked k x) (sym (from_zero m) ∙ e) t

  pub one_more : OneRowEach M.trades M.booked
  one_more =
      record {
        who = h.who ++ later;
        each_row =
            length-append h.who later ∙ ap₂ (λ a b. a + b) h.each_row (as-many-all K c 0 L.booked)
            ∙ sym (length-append L.trades (rows_from K c 0 L.booked)) ∙ sym (ap length s.trades);
        its-order = order-of;
        no-two = two_none;
        none-missing = missing-none;
      }
