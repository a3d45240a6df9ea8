use Rattle.std.proofs.Common.{Some, sym, ◌∙◌, ap, subst}
use Rattle.std.specs.Prelude.{option_map}
use Rattle.ild_data.specs.Data as T
use Rattle.ild_path_item.proofs.item.item_of.Goals as goal
use Rattle.ild_path_item.specs.inside.Rewrites.{Rewrites}

pub returns-in-Some : goal.returns-in-Some
returns-in-Some c =
    subst (λ o. Rewrites (option_map T.text o) c.told.result) (ap Some c.as_str.ensures.same ∙ sym c.in-Some.is) (c.told.ensures (T.text c.as_str.result.now) c.text_item.ensures)
