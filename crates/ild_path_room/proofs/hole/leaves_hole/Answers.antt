use Rattle.std.proofs.Common.{◌≡◌, true, sym, ◌∙◌, subst}
use Rattle.ild_path_room.specs.Hole.{TellsHole, is_tuple}
use Rattle.ild_view.specs.View.{slot_of, table_of}
use Rattle.ild_path_room.proofs.Holes.{tells_tuple}
use Rattle.ild_path_room.proofs.Telling.{view_typed}
use Rattle.ild_path_room.proofs.hole.leaves_hole.Goals as goal

pub returns : goal.returns
returns c = λ f is free.
    let v = c.args.view.now in
    let tuple : is_tuple c.form_of.result.now ≡ true = sym c.is_tuple.ensures ∙ c.if-not-is_tuple.false in
    subst (TellsHole (table_of v) (slot_of v, f) c.args.segment.now c.args.motion) (sym c.told.ensures)
    (tells_tuple (table_of v) (slot_of v, f) c.args.segment.now c.args.motion c.form_of.result.now c.number_of.result c.len.result c.form_of.ensures.same tuple (view_typed v f is) free c.number_of.ensures (c.len.ensures f is))
