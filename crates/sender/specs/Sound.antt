-- The lender's 16 by a broker's counts and lot: document 01, "Who causes which number", and document 02, request 1. Definitions only.
use Rattle.std.specs.Prelude.{ℕ, Bool, not, ◌||◌, [], ◌∷◌, Option}
use Rattle.floats.specs.Lots.{is_lot}
use Rattle.market.specs.Faults.{◌draws◌, drawn}
use Rattle.market.specs.declared.fault.Fault.{Fault}
use Rattle.market.specs.declared.fault.Fault.TheVariants.{Unsound}
use Rattle.exchange.specs.State.{broken_of}
use Rattle.exchange.specs.declared.state.Counts.{Counts}

-- the counts do not hold together, or the lot is outside 1 to 1,000,000
abbrev pub broken_with : Counts → ℕ → Bool
broken_with c lot = broken_of c || not (is_lot lot)

abbrev pub sound_fault : Counts → ℕ → Option Fault
sound_fault c lot = drawn ((broken_with c lot draws Unsound) ∷ [])
