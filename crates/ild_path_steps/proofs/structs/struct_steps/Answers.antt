use Rattle.std.proofs.Common.{sym, ◌∙◌, ap}
use Rattle.ild_schema.specs.Marks.{field_text}
use Rattle.ild_path_steps.proofs.Fielding.{field_is, struct_entry, struct_pairs}
use Rattle.ild_path_steps.proofs.Standing.{field_leads, field_pair_leads, tuple_leads}
use Rattle.ild_path_steps.proofs.structs.struct_steps.Goals as goal

pub returns-in-Map-clause-lifts : goal.returns-in-Map-clause-lifts
returns-in-Map-clause-lifts c = λ rows ds t a x s g stands made clear is after.
    let field = field_is _ c.args.def.now.fields s c.args.number c.index-as_slice-number.result g c.as_slice.ensures c.index-as_slice-number.is is.place is.named in
    struct_entry rows c.args.piece.now c.args.def.now.fields ds t a x s c.args.number g is after c.args.def.now.form c.text_of_field.result.now (sym c.in-Map.is) (c.text_of_field.ensures ∙ ap field_text field)

pub returns-in-ListPairs-clause-lifts : goal.returns-in-ListPairs-clause-lifts
returns-in-ListPairs-clause-lifts c = λ rows ds t a x s g stands made clear is after.
    let field = field_is _ c.args.def.now.fields s c.args.number c.index-as_slice-number.result g c.as_slice.ensures c.index-as_slice-number.is is.place is.named in
    struct_pairs rows c.args.piece.now c.args.def.now.fields ds t a x s c.args.number g is after c.args.def.now.form c.text_of_field-in-ListPairs.result.now c.pair_steps.result (sym c.in-ListPairs.is)
    (c.text_of_field-in-ListPairs.ensures ∙ ap field_text field) stands made clear (c.pair_steps.ensures rows)

pub returns-in-Map-clause-leads : goal.returns-in-Map-clause-leads
returns-in-Map-clause-leads c = λ rows ds t a s g stands made clear is.
    let field = field_is _ c.args.def.now.fields s c.args.number c.index-as_slice-number.result g c.as_slice.ensures c.index-as_slice-number.is is.place is.named in
    field_leads c.args.def.now.fields ds t a s c.args.number g is c.args.def.now.form c.text_of_field.result.now (sym c.in-Map.is) (c.text_of_field.ensures ∙ ap field_text field) made clear

pub returns-in-Tuple-clause-leads : goal.returns-in-Tuple-clause-leads
returns-in-Tuple-clause-leads c = λ rows ds t a s g stands made clear is. tuple_leads c.args.def.now.fields ds t a s c.args.number g is c.args.def.now.form (sym c.in-Tuple.is) made

pub returns-in-ListPairs-clause-leads : goal.returns-in-ListPairs-clause-leads
returns-in-ListPairs-clause-leads c = λ rows ds t a s g stands made clear is.
    let field = field_is _ c.args.def.now.fields s c.args.number c.index-as_slice-number.result g c.as_slice.ensures c.index-as_slice-number.is is.place is.named in
    field_pair_leads c.args.def.now.fields ds t a s c.args.number g is rows c.args.piece.now c.args.def.now.form c.text_of_field-in-ListPairs.result.now c.pair_steps.result (sym c.in-ListPairs.is) (c.text_of_field-in-ListPairs.ensures ∙ ap field_text field)
    stands made clear (c.pair_steps.ensures rows)
