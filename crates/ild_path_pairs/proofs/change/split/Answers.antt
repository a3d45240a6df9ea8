use Rattle.ild_path_pairs.proofs.Texts.{one_text, some_pairs}
use Rattle.ild_path_pairs.proofs.change.split.Goals as goal
use Rattle.ild_text.specs.Parts.{pairs_in}

pub returns-in-Ok : goal.returns-in-Ok
returns-in-Ok c = λ es h.
    let j = c.args.joined.now in
    one_text c.pairs_are_one.ensures.one c.pairs_are_pairs.ensures j.inner.now j.entry.now j.text.now j.inner_some j.entry_some es h (pairs_in c.in-Ok.split) c.in-Ok.ensures.pairs

pub returns-in-Err : goal.returns-in-Err
returns-in-Err c = λ es h.
    let j = c.args.joined.now in
    let p = some_pairs c.pairs_are_pairs.ensures j.inner.now j.entry.now j.text.now j.inner_some j.entry_some es h in
    let wrong = c.in-Err.ensures.complete p.0 p.1 in
    absurd cc
