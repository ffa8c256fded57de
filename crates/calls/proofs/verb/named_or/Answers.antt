-- `verb::named_or` meets its contract. Assumes nothing.
use mathlib.Core.Path.{refl}
use Rattle.calls.specs.Verbs.{named_or}
use Rattle.words.proofs.Picks.{picked, passed}
use Rattle.calls.proofs.verb.named_or.Goals as goal

pub returns-then-is_name : goal.returns-then-is_name
unfolding named_or
returns-then-is_name c = picked _ _ c.is_name.ensures c.if-is_name.true refl

pub returns : goal.returns
unfolding named_or
returns c = passed _ _ c.is_name.ensures c.if-is_name.false refl
