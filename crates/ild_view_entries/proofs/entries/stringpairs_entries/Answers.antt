use Rattle.ild_struct.proofs.Splitting.{only_text}
use Rattle.ild_text.specs.Parts.{pairs_in}
use Rattle.ild_view_entries.proofs.Texting.{text_split, text_there}
use Rattle.ild_view_entries.proofs.entries.stringpairs_entries.Goals as goal

pub returns-in-Ok : goal.returns-in-Ok
returns-in-Ok c = λ rows es t stands made.
    let is = only_text t c.in-Some.whole.now (c.in-Some.ensures rows t stands) in
    text_there c.args.inner.now c.args.entry.now c.requires.inner_some c.requires.entry_some es t made c.in-Some.whole.now is (pairs_in c.in-Ok.split) c.in-Ok.ensures.pairs

pub returns-in-Err : goal.returns-in-Err
returns-in-Err c = λ rows es t stands made.
    let is = only_text t c.in-Some.whole.now (c.in-Some.ensures rows t stands) in
    absurd (text_split c.args.inner.now c.args.entry.now c.requires.inner_some c.requires.entry_some es t made c.in-Some.whole.now is c.in-Err.ensures.complete)
