-- `word::is_name` meets its contract: `==` compares the two byte by byte. Assumes nothing.
use mathlib.Core.Path.{sym, ◌∙◌}
use Rattle.words.proofs.Names.{same_bytes-is}
use Rattle.words.proofs.word.is_name.Goals as goal

pub returns : goal.returns
returns c = c.eq.ensures ∙ sym (same_bytes-is c.args.w.now c.args.name.now)
