-- `word::part` meets its contract: `split` gives the parts. Assumes nothing.
use Rattle.std.proofs.Common.{rules}
use mathlib.Core.Path.{refl, sym, ap, ◌∙◌}
use mathlib.Core.List.{List, []}
use Prim.Native.Nat.{ℕ}
use lib.ListN.{get_or}
use lib.Dec.{eqb}
use Rattle.std.specs.List.{slice_split}
use Rattle.std.proofs.lemmas.Iterator.Consumers.{nth_from_yields_List}
use Rattle.std.proofs.lemmas.Iterator.Splits.{YieldsList-from_slice_split}
use Rattle.words.proofs.Splits.{split-is, one_of}
use Rattle.words.proofs.word.part.Goals as goal

pub returns : goal.returns
returns c = let e = nth_from_yields_List c.nth.result _ c.args.k c.nth.ensures.ran (YieldsList-from_slice_split _ (λ x. eqb x 58) c.args.w.now c.split.ensures.rest c.split.ensures.done c.split.ensures.closure (λ x b q k. search rules)) in
    ap (λ x. x.now) c.unwrap_or.ensures ∙ one_of c.nth.result _ (slice_split (λ x. eqb x 58) c.args.w.now) c.args.k e refl ∙ ap (λ (ps : List (List ℕ)). get_or ps c.args.k []) (sym (split-is 58 c.args.w.now))
