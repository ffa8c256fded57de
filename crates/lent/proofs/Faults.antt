-- What a log that draws nothing says of its length. Assumes nothing.
use Rattle.std.specs.declared.option.Option.TheVariants.{None}
use Prim.Native.Nat.{ℕ}
use mathlib.Core.Path.{◌≡◌, refl, sym}
use mathlib.Core.Bool.{Bool, true, false, not, ◌||◌}
use mathlib.Core.List.{List, [], ◌∷◌}
use native.Mathlib.Omega.{arith}
use lib.Dec.{eqb}
use lib.ListN.{length}
use lib.Seq.{length-take-le}
use borrow.Author.Tests.{eqb-true}
use Rattle.market.specs.Faults.{Test, drawn}
use Rattle.market.specs.declared.fault.Fault.TheVariants.{Unsound}
use Rattle.market.specs.declared.trade.Trade.{Trade}
use Rattle.market.proofs.Faults.{none-drawn}
use Rattle.exchange.proofs.Counting.{Sound}
use Rattle.sender.proofs.Sounding.{counts-sound}
use Rattle.broker.specs.Lender.{broken, length_test}
use Rattle.broker.specs.declared.state.UistBroker.{UistBroker}
use Rattle.lent.specs.Logs.{logged_in, turnover_fault}

-- ---- 16 for a log of the length n

or-false : (x y : Bool) → (not x || y) ≡ false → (x ≡ true) × (y ≡ false)
or-false true y h = (refl, h)
or-false false true h = (sym h, h)
or-false false false h = (sym h, refl)

-- a log that draws nothing has the length of the start, and the counts hold together
pub record Whole (b : UistBroker) (n : ℕ) : Type 0 where
  pub same : n ≡ b.exchange.counts.room
  pub sound : Sound b.exchange.counts

pub whole : (b : UistBroker) (n : ℕ) (l : List Test) → drawn (length_test b n ∷ l) ≡ None → Whole b n
whole b n l e =
    let c = b.exchange.counts in
    let t = or-false (eqb n c.room) (broken b) (none-drawn _ Unsound l e).0 in
    record { same = eqb-true n c.room t.0; sound = counts-sound c b.portfolio.lot t.1 }

-- the log's trades then are within it
pub logged_fits : (b : UistBroker) (log : List Trade) → turnover_fault b log ≡ None → b.exchange.counts.logged ≡ length (logged_in b log)
logged_fits b log e =
    let w = whole b (length log) [] e in
    sym (length-take-le b.exchange.counts.logged log (omega (arith, w.same, w.sound.logs, w.sound.bounded)))
