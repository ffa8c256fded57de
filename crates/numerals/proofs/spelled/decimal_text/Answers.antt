-- `spelled::decimal_text` meets its contract. Assumes nothing.
use Prim.Native.Nat.{ℕ}
use native.Mathlib.Omega.{arith}
use mathlib.Core.Path.{sym, ap}
use lib.ListN.{replicate}
use Rattle.numerals.specs.Numerals.{last_digits}
use Rattle.numerals.proofs.Places.{places-most}
use Rattle.numerals.proofs.Stores.{spells}
use Rattle.numerals.proofs.spelled.decimal_text.Goals as goal

pub spell-requires : goal.spell-requires
spell-requires c = (omega (arith, places-most 19 c.args.n (omega arith)), omega arith, omega arith)

pub returns : goal.returns
returns c = spells (replicate 20 0) 0 10 c.places-k.result c.args.n _ _ (omega arith) (ap (λ (j : ℕ). last_digits 10 j c.args.n) (sym c.places-k.ensures)) (omega arith) c.spell.ensures
