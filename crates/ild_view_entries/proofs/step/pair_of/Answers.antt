use Rattle.std.proofs.lemmas.Option.{same_Some, none-some}
use Rattle.ild_data.specs.Data as T
use Rattle.ild_typed.specs.Strings.{pair_data}
use Rattle.ild_view_entries.proofs.step.pair_of.Goals as goal

pub returns-in-Some-item : goal.returns-in-Some-item
returns-in-Some-item c = λ e stands.
    let first = c.in-Some.ensures (pair_data e) stands in
    (same_Some c.in-Some-text.key.now e.0 (c.in-Some-text.ensures (T.text e.0) first.stands), (c.in-Some-item.ensures (pair_data e) stands).stands)

pub returns-in-None-item : goal.returns-in-None-item
returns-in-None-item c = λ e stands. c.in-None-item.ensures (pair_data e) stands

pub returns-in-None-text : goal.returns-in-None-text
returns-in-None-text c = λ e stands.
    let first = c.in-Some.ensures (pair_data e) stands in
    none-some e.0 (c.in-None-text.ensures (T.text e.0) first.stands)

pub returns-in-None : goal.returns-in-None
returns-in-None c = λ e stands. c.in-None.ensures (pair_data e) stands
