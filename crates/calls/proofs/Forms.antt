-- The form of a line by its verb, where the verb is one of an arm's. Assumes nothing.
use mathlib.Core.Path.{◌≡◌, refl, sym, subst}
use mathlib.Core.List.{List, [], ◌∷◌}
use mathlib.Core.Logic.{◌⊎◌, inl, inr}
use Rattle.calls.specs.declared.verb.Verb.{Verb}
use Rattle.calls.specs.declared.verb.Verb.TheVariants.{Blank, Malformed, New, Lend, Deposit, Withdraw, Liquidate, Send, Insert, SendList, Delete, Check, Walk, Update, GetQuote, GetPositionQty, GetPendingOrder, GetPositionValue, GetPositionLiquidationValue, CostBasis, GetPositions, GetQuotes, GetHoldings, GetPendingOrders, GetTradeCosts, GetTotalValue, GetLiquidationValue, GetCashBalance, Turnover, GetBrokerState, ExecutedTradeCount, TradeImpactTotal, CalculateTradeCosts, Floor, Ceil, Correct, State, Quiet, Full, Clock}
use Rattle.calls.specs.Lists.{Words}
use Rattle.calls.specs.Calls.{Said, said_alone, said_as}

-- v is one of the verbs
abbrev pub Among : Verb → List Verb → Verb → Type 0
Among u [] v = v ≡ u
Among u (t ∷ us) v = (v ≡ u) ⊎ Among t us v

-- f gives the form of each of the verbs
module _ (f : Verb → Words → Said) (ws : Words) where
  abbrev pub Forms : List Verb → Type 0
  Forms [] = Unit {0}
  Forms (u ∷ us) = (f u ws ≡ said_as u ws) × Forms us

  form-as : (v u : Verb) → v ≡ u → f u ws ≡ said_as u ws → f v ws ≡ said_as v ws
  form-as v u e p = subst (λ (t : Verb). f t ws ≡ said_as t ws) (sym e) p

  pub form_of : (u : Verb) (us : List Verb) → Forms (u ∷ us) → (v : Verb) → Among u us v → f v ws ≡ said_as v ws
  form_of u [] p v e = form-as v u e p.0
  form_of u (t ∷ us) p v (inl e) = form-as v u e p.0
  form_of u (t ∷ us) p v (inr o) = form_of t us p.1 v o

-- v is none of the verbs
abbrev pub Unlike : List Verb → Verb → Type 0
Unlike [] v = Unit {0}
Unlike (u ∷ us) v = (v ≡ u → ⊥) × Unlike us v

-- the verbs whose form is another than the verb alone, in the order of the arms of `of_line`
abbrev pub with_words : List Verb
with_words =
    Blank ∷ Malformed ∷ New ∷ Lend ∷ Delete ∷ Deposit ∷ Withdraw ∷ Liquidate
    ∷ Floor ∷ Ceil ∷ Send ∷ Insert ∷ SendList ∷ Check ∷ Walk ∷ Update
    ∷ GetQuote ∷ GetPositionQty ∷ GetPendingOrder ∷ GetPositionValue ∷ GetPositionLiquidationValue ∷ CostBasis ∷ GetPositions ∷ GetQuotes
    ∷ GetHoldings ∷ GetPendingOrders ∷ GetTradeCosts ∷ TradeImpactTotal ∷ CalculateTradeCosts ∷ Correct ∷ []

-- each other verb stands alone
pub alone_form : (v : Verb) (ws : Words) → Unlike with_words v → said_alone v ws ≡ said_as v ws
unfolding said_as
alone_form Blank ws n = absurd (n.0 refl)
alone_form Malformed ws n = absurd (n.1.0 refl)
alone_form New ws n = absurd (n.1.1.0 refl)
alone_form Lend ws n = absurd (n.1.1.1.0 refl)
alone_form Deposit ws n = absurd (n.1.1.1.1.1.0 refl)
alone_form Withdraw ws n = absurd (n.1.1.1.1.1.1.0 refl)
alone_form Liquidate ws n = absurd (n.1.1.1.1.1.1.1.0 refl)
alone_form Send ws n = absurd (n.1.1.1.1.1.1.1.1.1.1.0 refl)
alone_form Insert ws n = absurd (n.1.1.1.1.1.1.1.1.1.1.1.0 refl)
alone_form SendList ws n = absurd (n.1.1.1.1.1.1.1.1.1.1.1.1.0 refl)
alone_form Delete ws n = absurd (n.1.1.1.1.0 refl)
alone_form Check ws n = absurd (n.1.1.1.1.1.1.1.1.1.1.1.1.1.0 refl)
alone_form Walk ws n = absurd (n.1.1.1.1.1.1.1.1.1.1.1.1.1.1.0 refl)
alone_form Update ws n = absurd (n.1.1.1.1.1.1.1.1.1.1.1.1.1.1.1.0 refl)
alone_form GetQuote ws n = absurd (n.1.1.1.1.1.1.1.1.1.1.1.1.1.1.1.1.0 refl)
alone_form GetPositionQty ws n = absurd (n.1.1.1.1.1.1.1.1.1.1.1.1.1.1.1.1.1.0 refl)
alone_form GetPendingOrder ws n = absurd (n.1.1.1.1.1.1.1.1.1.1.1.1.1.1.1.1.1.1.0 refl)
alone_form GetPositionValue ws n = absurd (n.1.1.1.1.1.1.1.1.1.1.1.1.1.1.1.1.1.1.1.0 refl)
alone_form GetPositionLiquidationValue ws n = absurd (n.1.1.1.1.1.1.1.1.1.1.1.1.1.1.1.1.1.1.1.1.0 refl)
alone_form CostBasis ws n = absurd (n.1.1.1.1.1.1.1.1.1.1.1.1.1.1.1.1.1.1.1.1.1.0 refl)
alone_form GetPositions ws n = absurd (n.1.1.1.1.1.1.1.1.1.1.1.1.1.1.1.1.1.1.1.1.1.1.0 refl)
alone_form GetQuotes ws n = absurd (n.1.1.1.1.1.1.1.1.1.1.1.1.1.1.1.1.1.1.1.1.1.1.1.0 refl)
alone_form GetHoldings ws n = absurd (n.1.1.1.1.1.1.1.1.1.1.1.1.1.1.1.1.1.1.1.1.1.1.1.1.0 refl)
alone_form GetPendingOrders ws n = absurd (n.1.1.1.1.1.1.1.1.1.1.1.1.1.1.1.1.1.1.1.1.1.1.1.1.1.0 refl)
alone_form GetTradeCosts ws n = absurd (n.1.1.1.1.1.1.1.1.1.1.1.1.1.1.1.1.1.1.1.1.1.1.1.1.1.1.0 refl)
alone_form GetTotalValue ws n = refl
alone_form GetLiquidationValue ws n = refl
alone_form GetCashBalance ws n = refl
alone_form Turnover ws n = refl
alone_form GetBrokerState ws n = refl
alone_form ExecutedTradeCount ws n = refl
alone_form TradeImpactTotal ws n = absurd (n.1.1.1.1.1.1.1.1.1.1.1.1.1.1.1.1.1.1.1.1.1.1.1.1.1.1.1.0 refl)
alone_form CalculateTradeCosts ws n = absurd (n.1.1.1.1.1.1.1.1.1.1.1.1.1.1.1.1.1.1.1.1.1.1.1.1.1.1.1.1.0 refl)
alone_form Floor ws n = absurd (n.1.1.1.1.1.1.1.1.0 refl)
alone_form Ceil ws n = absurd (n.1.1.1.1.1.1.1.1.1.0 refl)
alone_form Correct ws n = absurd (n.1.1.1.1.1.1.1.1.1.1.1.1.1.1.1.1.1.1.1.1.1.1.1.1.1.1.1.1.1.0 refl)
alone_form State ws n = refl
alone_form Quiet ws n = refl
alone_form Full ws n = refl
alone_form Clock ws n = refl
