-- The rows of one call: each is the trade of an order that an earlier call had booked. From the claim's own words. Assumes nothing.
use Prim.Native.Nat.{ℕ, suc}
use native.Mathlib.Omega.{arith}
use mathlib.Core.Path.{◌≡◌, refl, ◌∙◌, sym, ap}
use mathlib.Core.List.{List, [], ◌∷◌, ◌++◌, append-nil, append_assoc}
use Rattle.std.specs.declared.option.Option.{Option}
use Rattle.std.specs.declared.option.Option.TheVariants.{Some}
use Rattle.std.specs.Prelude.{slice_get}
use Rattle.std.proofs.lemmas.Option.{none-some}
use Rattle.lists.specs.Lists.{gather, each}
use Rattle.market.specs.declared.trade.Trade.{Trade}
use Rattle.orders.specs.Orders.{Taken, Fate, Entry, Orders}
use Rattle.orders.specs.Claim.{Calls, row_from, Within, trade_in, fate_of, since_from, rows_in, log_of, TradeOfBooked}
use Rattle.orders.proofs.Within.{at-either}

-- a row of an order is its trade
row_is : (f : Fate) (t : Option Trade) (k : ℕ) (x : Trade) → slice_get (row_from f t) k ≡ Some x → t ≡ Some x
row_is f t k x e = grind arith

module _ (K : Calls) (takes : List K.Call → K.Call → List Taken) (after : List K.Call → Orders) where
  -- the rows of a last call come last
  pub log-last : (past cs : List K.Call) (c : K.Call) → log_of K takes after past (cs ++ (c ∷ [])) ≡ log_of K takes after past cs ++ rows_in K takes after (past ++ cs) c
  log-last past [] c = append-nil (rows_in K takes after past c) ∙ sym (ap (λ l. rows_in K takes after l c) (append-nil past))
  log-last past (d ∷ cs) c =
      ap (λ l. rows_in K takes after past d ++ l)
      (log-last (past ++ (d ∷ [])) cs c ∙ ap (λ l. log_of K takes after (past ++ (d ∷ [])) cs ++ rows_in K takes after l c) (append_assoc past (d ∷ []) cs))
      ∙ sym (append_assoc (rows_in K takes after past d) (log_of K takes after (past ++ (d ∷ [])) cs) (rows_in K takes after (past ++ (d ∷ cs)) c))

  module _ (past : List K.Call) (c : K.Call) where
    abbrev row_at : ℕ → Entry → List Trade
    row_at n e = row_from (fate_of K e.taken n (since_from K takes after [] past n)) (trade_in K e.taken c)

    -- from the place i on
    from : (i k : ℕ) (x : Trade) (l : List Entry) → slice_get (gather (λ r. r) (each row_at i l)) k ≡ Some x →
        (n : ℕ) × (e : Entry) × (slice_get l n ≡ Some e) × (trade_in K e.taken c ≡ Some x)
    from i k x [] e = absurd (none-some x e)
    from i k x (d ∷ l) e =
        at-either (row_at i d) (gather (λ r. r) (each row_at (suc i) l)) k x ((n : ℕ) × (y : Entry) × (slice_get (d ∷ l) n ≡ Some y) × (trade_in K y.taken c ≡ Some x)) e
        (λ p. (0, d, refl, row_is (fate_of K d.taken i (since_from K takes after [] past i)) (trade_in K d.taken c) k x p))
        (λ j s p. let r = from (suc i) j x l p in (suc r.0, r.1, r.2, r.3))

    pub of-booked : (x : Trade) → Within x (rows_in K takes after past c) → TradeOfBooked K takes after past c x
    of-booked x h =
        let r = from 0 h.0 x (after past).booked h.1 in
        record { number = r.0; entry = r.1; booked-before = r.2; its-trade = r.3 }
