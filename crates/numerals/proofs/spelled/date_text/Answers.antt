-- `spelled::date_text` meets its contract. Assumes nothing.
use Prim.Native.Nat.{ℕ}
use native.Mathlib.Omega.{arith}
use mathlib.Core.Path.{sym, ap, ◌∙◌}
use mathlib.Core.Bool.{false}
use mathlib.Core.List.{◌∷◌}
use lib.ListN.{replicate}
use Rattle.numerals.specs.Numerals.{last_digits}
use Rattle.numerals.proofs.Dates.{size_few, by_size}
use Rattle.numerals.proofs.Stores.{spells}
use Rattle.numerals.proofs.spelled.date_text.Goals as goal

pub spell-requires : goal.spell-requires
spell-requires c = (omega (arith, size_few c.args.date c.ranges.date c.unsigned_abs-n.result c.unsigned_abs-n.ensures.value), omega arith, omega arith)

pub overflow_add-result : goal.overflow_add-result
overflow_add-result c = omega (arith, size_few c.args.date c.ranges.date c.unsigned_abs-n.result c.unsigned_abs-n.ensures.value)

pub returns : goal.returns
returns c = let text =
    by_size c.args.date c.ranges.date c.unsigned_abs-n.result c.unsigned_abs-n.ensures.value false c.if-date-ge0.false
    ∙ ap (λ (j : ℕ). 45 ∷ last_digits 10 j c.unsigned_abs-n.result) (sym c.places-k.ensures) in
    spells (replicate 20 45) 1 10 c.places-k.result c.unsigned_abs-n.result _ _ (omega arith) text (omega arith) c.spell.ensures
