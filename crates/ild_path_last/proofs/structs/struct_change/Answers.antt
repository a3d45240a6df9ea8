use Rattle.std.proofs.Common.{sym, ◌∙◌, ap, subst}
use Rattle.std.specs.Prelude.{is_some}
use Rattle.ild_path_changes.specs.Places.{left_out, written}
use Rattle.ild_layer_piece.specs.Pieces.{StandsFor}
use Rattle.ild_schema.specs.Marks.{field_text}
use Rattle.ild_path_steps.proofs.Fielding.{field_is}
use Rattle.ild_path_last.proofs.Comings.{written_shown}
use Rattle.ild_path_last.proofs.Forming.{field_entry, field_item, field_pair}
use Rattle.ild_path_last.specs.inside.Seats.{ChangesPair}
use Rattle.ild_path_last.proofs.structs.struct_change.Goals as goal

pub returns-in-Map : goal.returns-in-Map
returns-in-Map c = λ ds t s g d x u stands made clear named place new shown.
    let field = field_is _ c.args.def.now.fields s c.args.number c.index-fields-number.result g c.as_slice-fields.ensures c.index-fields-number.is place named in
    let written = c.is_written.ensures d new ∙ ap (λ z. is_some (written left_out z d)) field in
    field_entry (StandsFor c.args.acc.now c.args.piece.now) c.args.def.now.fields ds t s g d x u c.key_change.result stands named c.args.def.now.form c.text_of_field.result.now (sym c.in-Map.is) (c.text_of_field.ensures ∙ ap field_text field) made clear
    (λ y at. c.key_change.ensures y _ x u at written (written_shown g d x shown))

pub returns-in-Tuple : goal.returns-in-Tuple
returns-in-Tuple c = λ ds t s g d x u stands made clear named place new shown.
    field_item (StandsFor c.args.acc.now c.args.piece.now) c.args.def.now.fields ds t s g d x u c.item_change.result stands named c.args.def.now.form c.args.number (sym c.in-Tuple.is) place made
    (λ xs at e is. c.item_change.ensures e d x u (c.has_item.ensures c.args.acc.now xs at ∙ is) (c.is_there.ensures d new) shown)

pub returns-in-ListPairs : goal.returns-in-ListPairs
returns-in-ListPairs c = λ ds t s g d x u stands made clear named place new shown.
    let field = field_is _ c.args.def.now.fields s c.args.number c.index-fields-number.result g c.as_slice-fields.ensures c.index-fields-number.is place named in
    let written = c.is_written-in-ListPairs.ensures d new ∙ ap (λ z. is_some (written left_out z d)) field in
    let changes = subst (λ fs. ChangesPair (StandsFor c.args.acc.now c.args.piece.now) fs c.args.number c.is_written-in-ListPairs.result c.field_pair_change.result) c.as_slice-fields.ensures (c.field_pair_change.ensures c.args.acc.now) in
    field_pair (StandsFor c.args.acc.now c.args.piece.now) c.args.def.now.fields ds t s g d x u c.field_pair_change.result stands named c.args.def.now.form (sym c.in-ListPairs.is) made clear
    (λ es entries at apart. changes ds es s g d x u entries at apart named place written (written_shown g d x shown))
