-- A fate over a list of calls, and the first check that could trade the order. Assumes nothing.
use Prim.Native.Nat.{ℕ}
use native.Mathlib.Omega.{arith}
use mathlib.Core.Bool.{Bool, true, false, cond}
use mathlib.Core.Path.{◌≡◌, refl, ◌∙◌, sym, ap, ap₂}
use mathlib.Core.Logic.{◌↔◌}
use mathlib.Core.List.{List, [], ◌∷◌, ◌++◌}
use Rattle.std.specs.declared.option.Option.{Option}
use Rattle.std.specs.declared.option.Option.TheVariants.{None, Some}
use Rattle.lists.specs.Lists.{given, All}
use Rattle.market.specs.declared.quote.Quote.{Quote}
use Rattle.market.specs.declared.trade.Trade.{Trade}
use Rattle.orders.specs.Orders.{Taken, End, traded, deleted, Fate, ended, Entry, ended_by, trade_for, trade_end}
use Rattle.orders.specs.Claim.{Calls, trade_in, end_in, fate_of, CanTrade, FirstTrade, Life}

-- `end_in`, from its two tests
abbrev end_by : Bool → Option Trade → Option End
end_by b x = cond b (Some deleted) (trade_end x)

-- a deletion is no check
pub record Apart (K : Calls) : Type 0 where
  pub apart : (n : ℕ) (c : K.Call) → K.deletes n c ≡ true → K.tradable c ≡ None

module _ (K : Calls) where
  -- the last call comes last
  pub fate-last : (w : Taken) (n : ℕ) (cs : List K.Call) (c : K.Call) → fate_of K w n (cs ++ (c ∷ [])) ≡ ended_by (end_in K w n c) (fate_of K w n cs)
  fate-last w n [] c = grind arith
  fate-last w n (d ∷ cs) c = grind (arith, fate-last w n cs c)

  -- ---- to the first trade

  first_by : (w : Taken) (n : ℕ) (c : K.Call) (cs : List K.Call) (x : Trade) → (fate_of K w n cs ≡ ended (traded x) → FirstTrade K w n cs x) →
      (b : Bool) (y : Option Trade) → K.deletes n c ≡ b → trade_in K w c ≡ y → given (end_by b y) (fate_of K w n cs) ended ≡ ended (traded x) → FirstTrade K w n (c ∷ cs) x
  first_by w n c cs x ih true y d t e = grind arith
  first_by w n c cs x ih false None d t e =
      let r = ih e in
      let k = r.can in
      record {
        can = record { before = c ∷ k.before; here = k.here; rest = k.rest; split = ap (λ l. c ∷ l) k.split; trades = k.trades; not-deleted = (d, k.not-deleted) };
        none-sooner = (t, r.none-sooner);
      }
  first_by w n c cs x ih false (Some y) d t e =
      record { can = record { before = []; here = c; rest = cs; split = refl; trades = cc; not-deleted = tt }; none-sooner = tt }

  to-first : (w : Taken) (n : ℕ) (cs : List K.Call) (x : Trade) → fate_of K w n cs ≡ ended (traded x) → FirstTrade K w n cs x
  to-first w n [] x e = grind arith
  to-first w n (c ∷ cs) x e = first_by w n c cs x (to-first w n cs x) (K.deletes n c) (trade_in K w c) refl refl e

  -- ---- and back

  module _ (a : Apart K) where
    -- a call that deletes trades nothing
    no-trade : (w : Taken) (T : Option (List Quote)) (x : Trade) → T ≡ None → given T None (λ t. trade_for t w.order) ≡ Some x → ⊥
    no-trade w T x t e = grind arith

    pub no-deletion : (w : Taken) (n : ℕ) (c : K.Call) (x : Trade) → trade_in K w c ≡ Some x → K.deletes n c ≡ false
    no-deletion w n c x e = grind (arith, a.apart n c)

    of-first : (w : Taken) (n : ℕ) (before : List K.Call) (here : K.Call) (rest : List K.Call) (x : Trade) → trade_in K w here ≡ Some x →
        All (λ c. trade_in K w c ≡ None) before → All (λ c. K.deletes n c ≡ false) before → fate_of K w n (before ++ (here ∷ rest)) ≡ ended (traded x)
    of-first w n [] here rest x t s d = ap₂ (λ b y. given (end_by b y) (fate_of K w n rest) ended) (no-deletion w n here x t) t
    of-first w n (c ∷ l) here rest x t s d =
        ap₂ (λ b y. given (end_by b y) (fate_of K w n (l ++ (here ∷ rest))) ended) d.0 s.0 ∙ of-first w n l here rest x t s.1 d.1

    -- an order has traded, with the row x, exactly when x is its trade in the first check after its booking that could trade it
    first : (w : Taken) (n : ℕ) (cs : List K.Call) (x : Trade) → (fate_of K w n cs ≡ ended (traded x)) ↔ FirstTrade K w n cs x
    first w n cs x = (
      to-first w n cs x,
      λ r. let k = r.can in ap (fate_of K w n) k.split ∙ of-first w n k.before k.here k.rest x k.trades r.none-sooner k.not-deleted,
    )

    -- where some check can trade it, it trades
    traded-by : (w : Taken) (n : ℕ) (r : Fate) (c : K.Call) (y : Option Trade) → K.deletes n c ≡ false → trade_in K w c ≡ y → ((x : Trade) × (r ≡ ended (traded x))) →
        (x : Trade) × (given (end_in K w n c) r ended ≡ ended (traded x))
    traded-by w n r c None d t h = (h.0, ap₂ (λ b y. given (end_by b y) r ended) d t ∙ h.1)
    traded-by w n r c (Some y) d t h = (y, ap₂ (λ b y. given (end_by b y) r ended) d t)

    trades : (w : Taken) (n : ℕ) (before : List K.Call) (here : K.Call) (rest : List K.Call) (x : Trade) → trade_in K w here ≡ Some x →
        All (λ c. K.deletes n c ≡ false) before → (y : Trade) × (fate_of K w n (before ++ (here ∷ rest)) ≡ ended (traded y))
    trades w n [] here rest x t d = (x, of-first w n [] here rest x t tt tt)
    trades w n (c ∷ l) here rest x t d = traded-by w n (fate_of K w n (l ++ (here ∷ rest))) c (trade_in K w c) d.0 refl (trades w n l here rest x t d.1)

    some-trade : (w : Taken) (n : ℕ) (cs : List K.Call) → ((x : Trade) × CanTrade K w n cs x) → (y : Trade) × (fate_of K w n cs ≡ ended (traded y))
    some-trade w n cs h =
        let k = h.1 in
        let r = trades w n k.before k.here k.rest h.0 k.trades k.not-deleted in
        (r.0, ap (fate_of K w n) k.split ∙ r.1)

    pub life : (e : Entry) (n : ℕ) (cs : List K.Call) → e.fate ≡ fate_of K e.taken n cs → Life K e n cs
    life e n cs h =
        record {
          exactly-when = (
            λ p. (p.0, (to-first e.taken n cs p.0 (sym h ∙ p.1)).can),
            λ p. let r = some-trade e.taken n cs p in (r.0, h ∙ r.1),
          );
          in-the-first = λ x. (λ p. (first e.taken n cs x).0 (sym h ∙ p), λ p. h ∙ (first e.taken n cs x).1 p);
          fate-is = h;
        }
