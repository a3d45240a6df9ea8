use Rattle.std.proofs.Common.{List, [], ◌∷◌, ◌++◌, refl, ◌∙◌, ap}
use Rattle.ild_data.specs.Data as T
use Rattle.ild_schema.specs.Slots.{plainly}
use Rattle.ild_schema.specs.declared.row.Row.{Row}
use Rattle.ild_typed.specs.Spots.{Spot, value_spot}
use Rattle.ild_typed.proofs.OneValue.{plain_safe}
use Rattle.ild_layer_parts.specs.declared.part.Part.{Part}
use Rattle.ild_view_walk.proofs.Stacking.{one_held, text_held}
use Rattle.ild_view_walk.proofs.key_text.is_text.Goals as goal

pub returns : goal.returns
returns c =
    let rows : List Row = c.args.acc.now in
    let x : Part = c.value_part.result in
    let e = c.value_part.ensures in
    let spot : Spot = value_spot (plainly c.args.ty) (T.text c.args.text.now) [] in
    one_held rows x spot c.push.new.self.items (c.in_ok-push.ensures.items ∙ ap (λ xs. xs ++ x ∷ []) c.new-todo.ensures.items)
    (text_held rows c.args.ty c.args.text x (ap (λ (y : Part). y.slot) e) (ap (λ (y : Part). y.is_key) e) (ap (λ (y : Part). y.piece) e) c.requires)
    (record { tree = c.utf8.text; flat = refl; safe = plain_safe rows (plainly c.args.ty) refl }) c.all_open.result c.all_open.ensures
