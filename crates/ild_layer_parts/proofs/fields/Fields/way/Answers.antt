use Rattle.std.proofs.Common.{◌≡◌, List, get_or, not, Some, refl, ◌∙◌, ap, arith}
use Rattle.std.specs.Prelude.{slice_get}
use Rattle.ild_data.proofs.Gets.{got_at}
use Rattle.ild_schema.specs.declared.def.Field.{Field}
use Rattle.ild_layer_places.specs.declared.way.Way.TheVariants as W
use Rattle.ild_typed.specs.Spots.{field_steps}
use Rattle.ild_layer_parts.proofs.FieldSteps.{implicit_told, way_left_out, way_there}
use Rattle.ild_layer_parts.proofs.fields.Fields.way.Goals as goal

pub returns-then-is_written : goal.returns-then-is_written
returns-then-is_written c = λ rows ps h d at.
    let s = c.args.self.now in
    let fs : List Field = s.def.now.fields in
    let f : Field = c.index-as_slice-self.result in
    let is : f ≡ get_or fs s.next f = c.index-as_slice-self.is ∙ ap (λ (gs : List Field). get_or gs s.next f) c.as_slice.ensures in
    let known : slice_get fs s.next ≡ Some f = got_at fs s.next f (omega (arith, c.if-self-len.false, c.len.ensures)) is in
    let told = implicit_told rows s.def.now s.parts s.next ps h f d known at c.field-held.result (c.field-held.ensures.part rows h.ty h.tree h.held h.are) c.is_written.result
    (λ o part. c.is_written.ensures rows f o part) in
    way_there rows s.def.now s.parts s.next ps h f d known at c.way_in.result (told ∙ ap not c.if-is_written.true) (c.way_in.ensures ∙ ap (field_steps s.def.now.form f) (c.written_before.ensures rows ps h))

pub returns-else-is_written : goal.returns-else-is_written
returns-else-is_written c = λ rows ps h d at.
    let s = c.args.self.now in
    let fs : List Field = s.def.now.fields in
    let f : Field = c.index-as_slice-self.result in
    let is : f ≡ get_or fs s.next f = c.index-as_slice-self.is ∙ ap (λ (gs : List Field). get_or gs s.next f) c.as_slice.ensures in
    let known : slice_get fs s.next ≡ Some f = got_at fs s.next f (omega (arith, c.if-self-len.false, c.len.ensures)) is in
    let told = implicit_told rows s.def.now s.parts s.next ps h f d known at c.field-held.result (c.field-held.ensures.part rows h.ty h.tree h.held h.are) c.is_written.result
    (λ o part. c.is_written.ensures rows f o part) in
    way_left_out rows s.def.now s.parts s.next ps h f d known at W.Here (told ∙ ap not c.if-is_written.false) refl
