-- What the claim refuses: a ledger that never books has it only where nothing is taken; and the claim leaves no choice of what waits and of what is booked under
-- which number. Assumes nothing.
use native.Mathlib.Omega.{arith}
use mathlib.Core.Path.{◌≡◌, ◌∙◌, sym, ap, ap₂, subst}
use mathlib.Core.List.{List, [], ◌∷◌, ◌++◌, append-nil, append_assoc}
use Rattle.std.specs.declared.option.Option.{Option}
use Rattle.lists.specs.Lists.{given}
use Rattle.market.specs.declared.quote.Quote.{Quote}
use Rattle.orders.specs.Orders.{Taken, Orders, no_orders}
use Rattle.orders.specs.Claim.{Calls, taken_in, wait_on, books_of, Lived}

no-wait : (T : Option (List Quote)) (l : List Taken) → given T [] (λ t. []) ++ l ≡ l
no-wait T l = grind arith

-- a ledger that never books
pub not-vacuous : (K : Calls) (takes : List K.Call → K.Call → List Taken) → Lived K takes (λ cs. no_orders) [] → (past : List K.Call) (c : K.Call) → takes past c ≡ []
not-vacuous K takes l past c = sym (no-wait (K.tradable c) (takes past c)) ∙ sym (l.waiting past c)

module _ (K : Calls) (takes : List K.Call → K.Call → List Taken) (A B : List K.Call → Orders) (a : Lived K takes A []) (b : Lived K takes B []) where
  -- two ledgers with the claim, fed the same calls
  pub record Same (cs : List K.Call) : Type 0 where
    pub waiting : (A cs).waiting ≡ (B cs).waiting
    pub booked : taken_in (A cs).booked ≡ taken_in (B cs).booked

  same_step : (cs : List K.Call) (c : K.Call) → Same cs → Same (cs ++ (c ∷ []))
  same_step cs c s =
      record {
        waiting = a.waiting cs c ∙ ap (λ w. wait_on K c w ++ takes cs c) s.waiting ∙ sym (b.waiting cs c);
        booked = a.booking cs c ∙ ap₂ (λ x w. x ++ books_of K c w) s.booked s.waiting ∙ sym (b.booking cs c);
      }

  same_from : (past cs : List K.Call) → Same past → Same (past ++ cs)
  same_from past [] s = subst Same (sym (append-nil past)) s
  same_from past (c ∷ cs) s = subst Same (append_assoc past (c ∷ []) cs) (same_from (past ++ (c ∷ [])) cs (same_step past c s))

  pub same : (cs : List K.Call) → Same cs
  same cs =
      same_from [] cs
      (record { waiting = ap (λ x. x.waiting) (a.starts ∙ sym b.starts); booked = ap (λ x. taken_in x.booked) (a.starts ∙ sym b.starts) })
