-- What the comparison refuses: a program that calls a row logged where the ledger has no trade. Assumes nothing.
use Prim.Native.Nat.{ℕ, suc}
use native.Mathlib.Omega.{arith}
use mathlib.Core.Path.{◌≡◌, ◌∙◌, sym, ap, ap₂}
use mathlib.Core.List.{List, [], ◌∷◌}
use lib.ListN.{length, take}
use Rattle.market.specs.declared.trade.Trade.{Trade}
use Rattle.ledger.specs.Ledger.{Ledger}
use Rattle.ledger.specs.Program.{Held}
use Rattle.ledger.specs.Demand.{Compared}

pub no-row-without-a-trade : (l₀ : List Trade) (s : Held) (L : Ledger) (x : Trade) (l : List Trade) (n : ℕ) →
    L.orders.trades ≡ [] → s.log ≡ x ∷ l → s.broker.exchange.counts.logged ≡ suc n → Compared l₀ s L → ⊥
no-row-without-a-trade l₀ s L x l n t r m c =
    let e : take (suc n) (x ∷ l) ≡ [] = sym (ap₂ take m r) ∙ c.logged ∙ t in
    let z : ◌≡◌ {A = ℕ} (length (take (suc n) (x ∷ l))) 0 = ap length e in
    omega (arith, z)
