-- `verb::reader` meets its contract: the names are tested from the last one on. Assumes nothing.
use Rattle.calls.specs.Verbs.{verb_in}
use Rattle.calls.proofs.Verbs.{row_of}
use Rattle.calls.proofs.verb.reader.Goals as goal

pub returns : goal.returns
unfolding verb_in
returns c = row_of _ _ _ c.named_or.ensures
    (row_of _ _ _ c.named_or-v-7.ensures
    (row_of _ _ _ c.named_or-v-6.ensures
    (row_of _ _ _ c.named_or-v-5.ensures
    (row_of _ _ _ c.named_or-v-4.ensures
    (row_of _ _ _ c.named_or-v-3.ensures
    (row_of _ _ _ c.named_or-v-2.ensures
    (row_of _ _ _ c.named_or-v.ensures
    c.other-v.ensures)))))))
