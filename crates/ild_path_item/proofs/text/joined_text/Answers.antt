use Rattle.std.proofs.Common.{Some, sym, ◌∙◌, ap, subst}
use Rattle.std.proofs.lemmas.Option.{same_Some}
use Rattle.std.specs.Prelude.{option_map, slice_set}
use Rattle.ild_data.specs.Data as T
use Rattle.ild_path_item.proofs.Joins.{as_data}
use Rattle.ild_path_item.proofs.text.joined_text.Goals as goal
use Rattle.ild_path_item.specs.inside.Rewrites.{joined_with}
use Rattle.ild_path_item.specs.Texts.{Tells, borrowed_text}
use Rattle.ild_typed.specs.Texts.{join}

pub returns : goal.returns
returns c = λ rows old stands parts whole count less.
    let delim = c.args.delimiter.now in
    let here = c.in-Some-Some.old.now in
    let same = same_Some here old (ap (option_map (λ s. s.now)) (sym c.in-Some-Some.is-0) ∙ c.text.ensures rows (T.text old) stands) in
    subst (λ o. Tells (joined_with delim parts c.args.place (borrowed_text o)) c.set_part.result) (sym c.in-Some-Some.is-1)
    (as_data (join delim (slice_set parts c.args.place c.in-Some-Some.new.now)) c.set_part.result (c.set_part.ensures parts (whole ∙ ap Some (sym same)) count less))
