-- `word::first_at` meets its contract. Assumes nothing.
use native.Mathlib.Omega.{arith}
use Rattle.words.proofs.Words.{ordered, within, first-of, rest-of}
use Rattle.words.proofs.word.first_at.Goals as goal

pub slice_bounds-result-count : goal.slice_bounds-result-count
slice_bounds-result-count c = omega (arith, ordered _ _ c.word_at-w.ensures)

pub slice_bounds-result-start : goal.slice_bounds-result-start
slice_bounds-result-start c = omega (arith, ordered _ _ c.word_at-w.ensures, within _ _ c.word_at-w.ensures)

pub slice_bounds-result-end : goal.slice_bounds-result-end
slice_bounds-result-end c = omega (arith, ordered _ _ c.word_at-w.ensures, within _ _ c.word_at-w.ensures)

pub returns : goal.returns
returns c = record { word = first-of _ _ c.word_at-w.ensures; rest = rest-of _ _ c.word_at-w.ensures }
