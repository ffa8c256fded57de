-- `word::word_at` meets its contract. Assumes nothing.
use Prim.Native.Nat.{ℕ}
use mathlib.Core.Path.{◌≡◌, ap, ◌∙◌}
use mathlib.Core.Bool.{true, false}
use mathlib.Core.List.{List}
use Rattle.words.specs.declared.word.Word.{Word}
use Rattle.words.specs.Words.{is_byte, place, word_from, word_at}
use Rattle.words.proofs.word.word_at.Goals as goal

abbrev until : ℕ → ℕ → Word
until from to = record { from = from; to = to }

between : (l : List ℕ) (at from to : ℕ) → from ≡ place (is_byte 32 false) l at → to ≡ place (is_byte 32 true) l from → until from to ≡ word_at l at
unfolding word_at
between l at from to e f = ap (until from) f ∙ ap (word_from l) e

pub returns : goal.returns
returns c = between c.args.line.now c.args.at c.next-from.result c.next-to.result c.next-from.ensures c.next-to.ensures
