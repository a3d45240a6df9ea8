use Rattle.std.proofs.Common.{◌≡◌, ◌∙◌, ap}
use Rattle.std.proofs.lemmas.Option.{same_Some, none-some}
use Rattle.ild_data.specs.Data as T
use Rattle.ild_data.specs.Key.{same_text}
use Rattle.ild_typed.specs.Strings.{pair_data}
use Rattle.ild_path_steps.proofs.pair.is_keyed.Goals as goal

pub returns-in-Some-text : goal.returns-in-Some-text
returns-in-Some-text c = λ e stands.
    let first = c.in-Some.ensures (pair_data e) stands in
    let name : c.in-Some-text.name.now ≡ e.0 = same_Some c.in-Some-text.name.now e.0 (c.in-Some-text.ensures (T.text e.0) first.stands) in
    c.eq.ensures ∙ ap (same_text c.args.key.now) name

pub returns-in-None-text : goal.returns-in-None-text
returns-in-None-text c = λ e stands.
    let first = c.in-Some.ensures (pair_data e) stands in
    absurd (none-some e.0 (c.in-None-text.ensures (T.text e.0) first.stands))

pub returns-in-None : goal.returns-in-None
returns-in-None c = λ e stands. absurd (c.in-None.ensures (pair_data e) stands)
