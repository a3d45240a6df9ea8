use Rattle.std.proofs.Common.{◌≡◌, List, length, Some, ap, ◌∙◌, subst}
use Rattle.ild_schema.specs.Slots.{form_of}
use Rattle.ild_schema.specs.Table.{IsWithin}
use Rattle.ild_schema.specs.declared.row.Row.{Row}
use Rattle.ild_view.specs.View.{slot_of}
use Rattle.ild_path_room.proofs.Valued.{value_slotted}
use Rattle.ild_path_room.proofs.slot.value_slot.Goals as goal

pub returns-in-Map : goal.returns-in-Map
returns-in-Map c =
    let rows = c.args.acc.now in
    let known = subst (λ (r : List Row). form_of r (slot_of c.args.view.now) ≡ Some c.form_of.result.now) c.requires c.form_of.ensures.same in
    let within = subst (IsWithin (length rows)) c.in-Map.is (subst (λ (r : List Row). IsWithin (length r) c.form_of.result.now) c.requires c.form_of.ensures.within) in
    value_slotted rows c.recall.ensures.table c.recall.ensures.legible (slot_of c.args.view.now) c.in-Map.key c.in-Map.key_at c.in-Map.value c.in-Map.at c.in-Map.form (known ∙ ap Some c.in-Map.is) within
