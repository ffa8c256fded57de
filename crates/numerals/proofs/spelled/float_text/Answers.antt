-- `spelled::float_text` meets its contract. Assumes nothing.
use native.Mathlib.Omega.{arith}
use mathlib.Core.Path.{sym, ap}
use lib.ListN.{replicate}
use Rattle.numerals.specs.Numerals.{hex16}
use Rattle.numerals.proofs.Stores.{spells}
use Rattle.numerals.proofs.spelled.float_text.Goals as goal

pub returns : goal.returns
returns c = spells (replicate 20 0) 0 16 16 c.f64_to_bits_with_nan.result _ _ (omega arith) (ap hex16 (sym c.f64_to_bits_with_nan.ensures)) (omega arith) c.spell.ensures
