-- `word::parts` meets its contract: a word has one part more than it has colons. Assumes nothing.
use Rattle.std.proofs.Common.{rules}
use mathlib.Core.Path.{◌≡◌, sym, ap, ◌∙◌}
use Prim.Native.Nat.{ℕ, ◌+◌}
use lib.ListN.{length}
use lib.Dec.{eqb}
use Rattle.std.specs.List.{count_by}
use Rattle.std.proofs.lemmas.List.Splits.{length-slice_split}
use Rattle.words.proofs.Splits.{split-is}
use Rattle.words.proofs.word.parts.Goals as goal

pub returns : goal.returns
returns c = let colons : c.count.result ≡ count_by (λ x. eqb x 58) c.args.w.now = search rules in
    ap (λ (n : ℕ). n + 1) colons ∙ sym (length-slice_split (λ x. eqb x 58) c.args.w.now) ∙ ap length (sym (split-is 58 c.args.w.now))
