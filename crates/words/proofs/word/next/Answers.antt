-- `word::next` meets its contract: the first byte that passes is looked for behind the bytes before `at`. Assumes nothing.
use Rattle.std.proofs.Common.{rules}
use mathlib.Core.Path.{sym, ap, ◌∙◌}
use native.Mathlib.Nat.{le_refl}
use lib.ListN.{length, drop}
use Rattle.std.proofs.lemmas.Iterator.{YieldsList-from_slice}
use Rattle.std.proofs.lemmas.Iterator.Search.{position_from_yields_List}
use Rattle.std.proofs.lemmas.Slice.{between_to_end}
use Rattle.words.specs.Words.{is_byte}
use Rattle.words.proofs.Places.{from-least, found, not-found}
use Rattle.words.proofs.word.next.Goals as goal

pub returns-in-Some : goal.returns-in-Some
returns-in-Some c = let from = c.iter.ensures.rest ∙ between_to_end c.args.s.now c.min-start.result (length c.args.s.now) (le_refl _) ∙ ap (λ i. drop i c.args.s.now) c.min-start.ensures ∙ from-least c.args.s.now c.args.at in
    let e = position_from_yields_List (is_byte c.args.byte c.args.is) _ _ c.position.result c.position.ensures.ran (YieldsList-from_slice (drop c.args.at c.args.s.now) from) (λ x b q k. search rules) in
    found (is_byte c.args.byte c.args.is) c.args.s.now c.args.at c.min-start.result c.in-Some.k c.min-start.ensures (sym c.in-Some.is ∙ e)

pub returns-in-None : goal.returns-in-None
returns-in-None c = let from = c.iter.ensures.rest ∙ between_to_end c.args.s.now c.min-start.result (length c.args.s.now) (le_refl _) ∙ ap (λ i. drop i c.args.s.now) c.min-start.ensures ∙ from-least c.args.s.now c.args.at in
    let e = position_from_yields_List (is_byte c.args.byte c.args.is) _ _ c.position.result c.position.ensures.ran (YieldsList-from_slice (drop c.args.at c.args.s.now) from) (λ x b q k. search rules) in
    not-found (is_byte c.args.byte c.args.is) c.args.s.now c.args.at (sym c.in-None.is ∙ e)
