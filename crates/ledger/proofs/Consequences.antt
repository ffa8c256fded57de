-- The two consequences of demand 3, from its statement alone. Assumes nothing.
use Prim.Native.Nat.{ℕ, zero, suc, ◌+◌, ◌<◌, ◌^◌}
use native.Mathlib.Omega.{arith}
use mathlib.Core.Path.{◌≡◌, refl, ◌∙◌, sym, ap, subst}
use mathlib.Core.List.{List, [], ◌∷◌, ◌++◌}
use Rattle.std.specs.declared.option.Option.TheVariants.{Some}
use lib.ListN.{length}
use Rattle.std.specs.Prelude.{slice_get}
use Rattle.std.proofs.lemmas.Option.{same_Some}
use Rattle.market.specs.declared.quote.Quote.{Quote}
use Rattle.market.specs.declared.trade.Trade.{Trade}
use Rattle.costs.specs.declared.TradeCosts.{TradeCosts}
use Rattle.orders.specs.Orders.{orders_of, Fate, resting, ended, Entry}
use Rattle.orders.specs.Claim.{Within, OneRowEach, rows_in, wait_on}
use Rattle.orders.proofs.Within.{at_map, within-right}
use Rattle.orders.proofs.Rows.{log-last, of-booked}
use Rattle.exchange.specs.State.{booked_as}
use Rattle.exchange.specs.Runs.{rest_of, resting_from}
use Rattle.exchange.specs.declared.state.Booked.{Booked}
use Rattle.ledger.specs.Calls.{Call}
use Rattle.ledger.specs.Demand.{broker_calls, orders_after, takes_after, Buildable}
use Rattle.ledger.specs.Consequences.{NeverAtOnce, NoTwoRows}
use Rattle.ledger.proofs.Demand.{demand-3}

-- an order that rests stands among the resting ones, under its number
rest-within : (f : Fate) (o : Booked) (l : List Booked) → f ≡ resting → Within o (rest_of f o.id o.order l)
rest-within resting o l e = (0, refl)
rest-within (ended x) o l e = grind arith

rest-behind : (f : Fate) (n : ℕ) (e : Entry) (b : Booked) (l : List Booked) → Within b l → Within b (rest_of f n e.taken.order l)
rest-behind resting n e b l h = (suc h.0, h.1)
rest-behind (ended x) n e b l h = h

resting-there : (i k n : ℕ) (l : List Entry) (e : Entry) → i + k ≡ n → slice_get l k ≡ Some e → e.fate ≡ resting → Within (booked_as n e.taken.order) (resting_from i l)
resting-there i k n [] e s t f = grind arith
resting-there i zero n (d ∷ l) e s t f =
    let a = same_Some d e t in
    let b : i ≡ n = omega arith in
    subst (λ x. Within (booked_as n e.taken.order) (rest_of x.fate i x.taken.order (resting_from (suc i) l))) (sym a)
    (subst (λ m. Within (booked_as n e.taken.order) (rest_of e.fate m e.taken.order (resting_from (suc i) l))) (sym b)
    (rest-within e.fate (booked_as n e.taken.order) (resting_from (suc i) l) f))
resting-there i (suc k) n (d ∷ l) e s t f =
    rest-behind d.fate i d (booked_as n e.taken.order) (resting_from (suc i) l) (resting-there (suc i) k n l e (omega arith) t f)

module _ (costs : TradeCosts) (lot : ℕ) (first : List Quote) (l₀ : List Trade) (d : Buildable costs lot first) (h : length l₀ < 2 ^ 64) where
  -- no order trades in the call that took it or in the check that booked it
  pub never-at-once : (past : List Call) (c : Call) → NeverAtOnce costs lot first l₀ past c
  never-at-once past c =
      let K = broker_calls in
      let takes = takes_after costs lot first (length l₀) in
      let after = orders_after costs lot first (length l₀) in
      let now = past ++ (c ∷ []) in
      let D = demand-3 costs lot first l₀ d h now in
      let P = demand-3 costs lot first l₀ d h past in
      record {
        added = rows_in K takes after past c;
        log-grows =
            D.compared.logged ∙ D.lived.log ∙ log-last K takes after [] past c
            ∙ ap (λ l. l ++ rows_in K takes after past c) (sym (P.compared.logged ∙ P.lived.log));
        of-booked = of-booked K takes after past c;
        taken-waits = λ w t.
            subst (λ l. Within w.order l) (sym (D.compared.waiting ∙ ap orders_of (D.lived.waiting past c)))
            (let r = within-right (wait_on K c (after past).waiting) (takes past c) w t in
            (r.0, at_map (λ v. v.order) (wait_on K c (after past).waiting ++ takes past c) r.0 w r.1));
        booked-rests = λ n b.
            let f = (D.lived.fates past c [] n refl b).1 in (
              booked_as n f.entry.taken.order,
              refl,
              subst (λ l. Within (booked_as n f.entry.taken.order) l) (sym D.compared.resting)
                  (resting-there 0 n n (after now).booked f.entry (omega arith) f.there f.life.fate-is),
            );
      }

  -- no order has two rows: the rows of the log and the orders that have traded match one to one
  pub no-two-rows : (cs : List Call) → NoTwoRows costs lot first l₀ cs
  no-two-rows cs =
      let D = demand-3 costs lot first l₀ d h cs in
      subst (λ l. OneRowEach l (orders_after costs lot first (length l₀) cs).booked) (sym D.compared.logged) D.lived.once
