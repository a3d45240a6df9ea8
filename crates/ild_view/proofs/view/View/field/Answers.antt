use Rattle.std.proofs.Common.{◌≡◌, ◌<◌, ℕ, true, List, length, Option, Some, None, sym, ◌∙◌, ap, subst, arith}
use Rattle.std.specs.Prelude.{◌↔◌, [], option_and_then, slice_get}
use Rattle.std.proofs.Math.Logic.{∥∥₁_map}
use Rattle.ild_data.specs.Data.{Data}
use Rattle.ild_schema.specs.Parts.{part_named}
use Rattle.ild_schema.specs.Rows.{def_at}
use Rattle.ild_schema.specs.Slots.{form_of}
use Rattle.ild_schema.specs.Table.{IsWithin}
use Rattle.ild_schema.specs.declared.def.Field.{Field}
use Rattle.ild_schema.specs.declared.def.TypeDef.{TypeDef}
use Rattle.ild_schema.specs.declared.def.TypeDef.TheVariants as D
use Rattle.ild_struct.specs.Parts.{IsFieldPart}
use Rattle.ild_typed.specs.At.{seen}
use Rattle.ild_view.proofs.Entering.{null_field, own_numbered}
use Rattle.ild_view.proofs.Fielding.{field_at_place, field_found, field_indexed, field_same, leaves_out}
use Rattle.ild_view.proofs.Handing.{hands_none, hands_nothing, hands_out, has_front}
use Rattle.ild_view.proofs.Placing.{field_implicit, field_in, field_is_safe}
use Rattle.ild_view.proofs.Reading.{not_implicit, struct_is, struct_kept, struct_without}
use Rattle.ild_view.specs.Body.{BodyStands, is_placed}
use Rattle.ild_view.specs.LeftOut.{has_implicit}
use Rattle.ild_view.specs.Parts.{field_named}
use Rattle.ild_view.specs.View.{piece_of}
use Rattle.ild_view.specs.declared.body.Body.{Body}
use Rattle.ild_view.proofs.view.View.field.Goals as goal

pub placed-requires-clause-within : goal.placed-requires-clause-within
placed-requires-clause-within c =
    let form : form_of c.args.self.now.acc.now c.args.self.now.slot ≡ Some (D.Struct c.in-Some.def.now) = c.def.ensures.same ∙ ap Some (struct_is c.def.result.now c.in-Some.def.now c.in-Some.ensures) in
    let at : slice_get c.in-Some.def.now.fields c.in-Some-number_of.number ≡ Some c.index-as_slice-number.result =
    field_indexed c.args.self.now.acc.now c.args.self.now.slot c.in-Some.def.now form c.base.result.0 c.in-Some-number_of.number c.base.ensures.same c.in-Some-number_of.ensures.within c.as_slice.result.now c.as_slice.ensures c.index-as_slice-number.result c.index-as_slice-number.is in
    field_in c.args.self.now.acc.now c.recall.ensures.legible c.args.self.now.slot c.in-Some.def.now form c.in-Some-number_of.number c.index-as_slice-number.result at
    (subst (λ (d : TypeDef). IsWithin (length c.args.self.now.acc.now) d) (struct_is c.def.result.now c.in-Some.def.now c.in-Some.ensures) c.def.ensures.within)

pub placed-requires-clause-safe : goal.placed-requires-clause-safe
placed-requires-clause-safe c =
    let form : form_of c.args.self.now.acc.now c.args.self.now.slot ≡ Some (D.Struct c.in-Some.def.now) = c.def.ensures.same ∙ ap Some (struct_is c.def.result.now c.in-Some.def.now c.in-Some.ensures) in
    let at : slice_get c.in-Some.def.now.fields c.in-Some-number_of.number ≡ Some c.index-as_slice-number.result =
    field_indexed c.args.self.now.acc.now c.args.self.now.slot c.in-Some.def.now form c.base.result.0 c.in-Some-number_of.number c.base.ensures.same c.in-Some-number_of.ensures.within c.as_slice.result.now c.as_slice.ensures c.index-as_slice-number.result c.index-as_slice-number.is in
    field_is_safe c.args.self.now.acc.now c.recall.ensures.legible c.args.self.now.slot c.in-Some.def.now form c.in-Some-number_of.number c.index-as_slice-number.result at

pub placed-requires-clause-numbered : goal.placed-requires-clause-numbered
placed-requires-clause-numbered c = let e = c.in-Some-body_of.ensures.free (c.field.ensures.numbered []) in omega (arith, e)

pub placed-requires-clause-placed : goal.placed-requires-clause-placed
placed-requires-clause-placed c =
    let form : form_of c.args.self.now.acc.now c.args.self.now.slot ≡ Some (D.Struct c.in-Some.def.now) = c.def.ensures.same ∙ ap Some (struct_is c.def.result.now c.in-Some.def.now c.in-Some.ensures) in
    let at : slice_get c.in-Some.def.now.fields c.in-Some-number_of.number ≡ Some c.index-as_slice-number.result =
    field_indexed c.args.self.now.acc.now c.args.self.now.slot c.in-Some.def.now form c.base.result.0 c.in-Some-number_of.number c.base.ensures.same c.in-Some-number_of.ensures.within c.as_slice.result.now c.as_slice.ensures c.index-as_slice-number.result c.index-as_slice-number.is in
    c.in-Some-body_of.ensures.placed (c.field.ensures.numbered []) c.args.self.now.acc.now
    (field_implicit c.args.self.now.acc.now c.recall.ensures.legible c.args.self.now.slot c.in-Some.def.now form c.in-Some-number_of.number c.index-as_slice-number.result at)

pub placed-requires-clause-front : goal.placed-requires-clause-front
placed-requires-clause-front c =
    let form : form_of c.args.self.now.acc.now c.args.self.now.slot ≡ Some (D.Struct c.in-Some.def.now) = c.def.ensures.same ∙ ap Some (struct_is c.def.result.now c.in-Some.def.now c.in-Some.ensures) in
    let at : slice_get c.in-Some.def.now.fields c.in-Some-number_of.number ≡ Some c.index-as_slice-number.result =
    field_indexed c.args.self.now.acc.now c.args.self.now.slot c.in-Some.def.now form c.base.result.0 c.in-Some-number_of.number c.base.ensures.same c.in-Some-number_of.ensures.within c.as_slice.result.now c.as_slice.ensures c.index-as_slice-number.result c.index-as_slice-number.is in
    ∥∥₁_map c.args.self.now.stands (λ h.
    let s = c.args.self.now in
    let some = sym (c.is_null_there.ensures h.tree h.stands) ∙ c.if-is_null_there.false in
    let stands = subst (λ (b : Body). BodyStands s.acc.now b h.tree) c.in-Held.is h.stands in
    let parts = c.in-Ok.ensures.parts h.tree stands in
    let own = c.in-Ok.ensures.fields c.in-Some.def.now form in
    let x = field_found s.acc.now c.recall.ensures.legible s.slot s.safe h.room h.value h.tree h.front some c.in-Some.def.now form c.args.name.now c.base.result.0 c.in-Some-number_of.number c.base.ensures.same
    c.in-Some-number_of.ensures.same c.index-as_slice-number.result at c.in-Ok.parts parts own c.field.result (c.field.ensures.part s.acc.now s.slot.ty.0 h.tree parts.0 parts.1) in
    has_front s.acc.now c.index-as_slice-number.result.slot x.held (field_named (seen s.acc.now (s.slot, h.value)) c.args.name.now) c.in-Some-body_of.body
    (c.in-Some-body_of.ensures.embodies s.acc.now x.held x.is) x.beside)

pub returns-in-Some-body_of-clause-part : goal.returns-in-Some-body_of-clause-part
returns-in-Some-body_of-clause-part c = λ f v.
    let form : form_of c.args.self.now.acc.now c.args.self.now.slot ≡ Some (D.Struct c.in-Some.def.now) = c.def.ensures.same ∙ ap Some (struct_is c.def.result.now c.in-Some.def.now c.in-Some.ensures) in
    let at : slice_get c.in-Some.def.now.fields c.in-Some-number_of.number ≡ Some c.index-as_slice-number.result =
    field_indexed c.args.self.now.acc.now c.args.self.now.slot c.in-Some.def.now form c.base.result.0 c.in-Some-number_of.number c.base.ensures.same c.in-Some-number_of.ensures.within c.as_slice.result.now c.as_slice.ensures c.index-as_slice-number.result c.index-as_slice-number.is in
    let s = c.args.self.now in
    let some = sym (c.is_null_there.ensures v.tree v.stands) ∙ c.if-is_null_there.false in
    let stands = subst (λ (b : Body). BodyStands s.acc.now b v.tree) c.in-Held.is v.stands in
    let parts = c.in-Ok.ensures.parts v.tree stands in
    let own = c.in-Ok.ensures.fields c.in-Some.def.now form in
    let x = field_found s.acc.now c.recall.ensures.legible s.slot s.safe v.room f v.tree v.front some c.in-Some.def.now form c.args.name.now c.base.result.0 c.in-Some-number_of.number c.base.ensures.same
    c.in-Some-number_of.ensures.same c.index-as_slice-number.result at c.in-Ok.parts parts own c.field.result (c.field.ensures.part s.acc.now s.slot.ty.0 v.tree parts.0 parts.1) in
    hands_out s.acc.now c.index-as_slice-number.result.slot x.held (field_named (seen s.acc.now (s.slot, f)) c.args.name.now) c.in-Some-body_of.body c.placed.result
    (c.in-Some-body_of.ensures.embodies s.acc.now x.held x.is) x.beside c.placed.ensures.table c.placed.ensures.slot c.placed.ensures.body

pub returns-in-Some-body_of-clause-left_out : goal.returns-in-Some-body_of-clause-left_out
returns-in-Some-body_of-clause-left_out c = λ f v n g q named there is.
    let form : form_of c.args.self.now.acc.now c.args.self.now.slot ≡ Some (D.Struct c.in-Some.def.now) = c.def.ensures.same ∙ ap Some (struct_is c.def.result.now c.in-Some.def.now c.in-Some.ensures) in
    let at : slice_get c.in-Some.def.now.fields c.in-Some-number_of.number ≡ Some c.index-as_slice-number.result =
    field_indexed c.args.self.now.acc.now c.args.self.now.slot c.in-Some.def.now form c.base.result.0 c.in-Some-number_of.number c.base.ensures.same c.in-Some-number_of.ensures.within c.as_slice.result.now c.as_slice.ensures c.index-as_slice-number.result c.index-as_slice-number.is in
    let s = c.args.self.now in
    let some = sym (c.is_null_there.ensures v.tree v.stands) ∙ c.if-is_null_there.false in
    let stands = subst (λ (b : Body). BodyStands s.acc.now b v.tree) c.in-Held.is v.stands in
    let parts = c.in-Ok.ensures.parts v.tree stands in
    let own = c.in-Ok.ensures.fields c.in-Some.def.now form in
    let x = field_found s.acc.now c.recall.ensures.legible s.slot s.safe v.room f v.tree v.front some c.in-Some.def.now form c.args.name.now c.base.result.0 c.in-Some-number_of.number c.base.ensures.same
    c.in-Some-number_of.ensures.same c.index-as_slice-number.result at c.in-Ok.parts parts own c.field.result (c.field.ensures.part s.acc.now s.slot.ty.0 v.tree parts.0 parts.1) in
    let index = c.index-as_slice-number.result in
    let same = field_same s.acc.now s.slot c.in-Some.def.now form c.args.name.now c.base.result.0 c.in-Some-number_of.number n c.base.ensures.same c.in-Some-number_of.ensures.same index g at named there in
    subst (λ (k : Field). (piece_of c.placed.result ≡ None) ↔ (has_implicit s.acc.now k q ≡ true)) same
    (leaves_out s.acc.now index.slot index x.held (field_named (seen s.acc.now (s.slot, f)) c.args.name.now) c.in-Some-body_of.body c.placed.result x.beside
    (λ d held. c.in-Some-body_of.ensures.left_out s.acc.now d (subst (λ (o : Option Data). IsFieldPart s.acc.now index o c.field.result) held x.is)) c.placed.ensures.body q is)

pub returns-in-None-body_of-clause-part : goal.returns-in-None-body_of-clause-part
returns-in-None-body_of-clause-part c = λ f v.
    let form : form_of c.args.self.now.acc.now c.args.self.now.slot ≡ Some (D.Struct c.in-Some.def.now) = c.def.ensures.same ∙ ap Some (struct_is c.def.result.now c.in-Some.def.now c.in-Some.ensures) in
    let at : slice_get c.in-Some.def.now.fields c.in-Some-number_of.number ≡ Some c.index-as_slice-number.result =
    field_indexed c.args.self.now.acc.now c.args.self.now.slot c.in-Some.def.now form c.base.result.0 c.in-Some-number_of.number c.base.ensures.same c.in-Some-number_of.ensures.within c.as_slice.result.now c.as_slice.ensures c.index-as_slice-number.result c.index-as_slice-number.is in
    let s = c.args.self.now in
    let some = sym (c.is_null_there.ensures v.tree v.stands) ∙ c.if-is_null_there.false in
    let stands = subst (λ (b : Body). BodyStands s.acc.now b v.tree) c.in-Held.is v.stands in
    let parts = c.in-Ok.ensures.parts v.tree stands in
    let own = c.in-Ok.ensures.fields c.in-Some.def.now form in
    let x = field_found s.acc.now c.recall.ensures.legible s.slot s.safe v.room f v.tree v.front some c.in-Some.def.now form c.args.name.now c.base.result.0 c.in-Some-number_of.number c.base.ensures.same
    c.in-Some-number_of.ensures.same c.index-as_slice-number.result at c.in-Ok.parts parts own c.field.result (c.field.ensures.part s.acc.now s.slot.ty.0 v.tree parts.0 parts.1) in
    hands_none s.acc.now c.index-as_slice-number.result.slot x.held (field_named (seen s.acc.now (s.slot, f)) c.args.name.now)
    (c.in-None-body_of.ensures.embodies s.acc.now x.held x.is) x.beside

pub returns-in-Err-clause-part : goal.returns-in-Err-clause-part
returns-in-Err-clause-part c = λ f v.
    let s = c.args.self.now in
    let some = sym (c.is_null_there.ensures v.tree v.stands) ∙ c.if-is_null_there.false in
    let stands = subst (λ (b : Body). BodyStands s.acc.now b v.tree) c.in-Held.is v.stands in
    let form : form_of s.acc.now s.slot ≡ Some (D.Struct c.in-Some.def.now) = c.def.ensures.same ∙ ap Some (struct_is c.def.result.now c.in-Some.def.now c.in-Some.ensures) in
    absurd (struct_kept s.acc.now c.recall.ensures.legible s.slot s.safe v.room f v.tree v.front some c.in-Some.def.now form c.in-Held.piece c.in-Err.field-0 stands (c.in-Err.ensures.refused v.tree stands))

pub returns-in-None-number_of-clause-part : goal.returns-in-None-number_of-clause-part
returns-in-None-number_of-clause-part c = λ f v.
    let s = c.args.self.now in
    let some = sym (c.is_null_there.ensures v.tree v.stands) ∙ c.if-is_null_there.false in
    let form : form_of s.acc.now s.slot ≡ Some (D.Struct c.in-Some.def.now) = c.def.ensures.same ∙ ap Some (struct_is c.def.result.now c.in-Some.def.now c.in-Some.ensures) in
    let found = c.in-None-number_of.ensures.same ∙ ap (λ (k : ℕ). option_and_then (part_named c.args.name.now) (def_at s.acc.now k)) c.base.ensures.same in
    hands_nothing s.acc.now (field_named (seen s.acc.now (s.slot, f)) c.args.name.now)
    (struct_without s.acc.now c.recall.ensures.legible s.slot s.safe v.room f v.tree v.front some c.in-Some.def.now form c.args.name.now found)

pub base-requires : goal.base-requires
base-requires c = c.args.self.now.within

pub layer-requires-clause-within : goal.layer-requires-clause-within
layer-requires-clause-within c = c.args.self.now.within

pub layer-requires-clause-form : goal.layer-requires-clause-form
layer-requires-clause-form c = (c.in-Some.def.now, c.def.ensures.same ∙ ap Some (struct_is c.def.result.now c.in-Some.def.now c.in-Some.ensures))

pub layer-requires-clause-numbered : goal.layer-requires-clause-numbered
layer-requires-clause-numbered c = own_numbered c.args.self.now.acc.now c.args.self.now.body c.in-Held.piece c.in-Held.is c.args.self.now.numbered

pub bounds-as_slice-number : goal.bounds-as_slice-number
bounds-as_slice-number c =
    let form : form_of c.args.self.now.acc.now c.args.self.now.slot ≡ Some (D.Struct c.in-Some.def.now) = c.def.ensures.same ∙ ap Some (struct_is c.def.result.now c.in-Some.def.now c.in-Some.ensures) in
    subst (λ (fs : List Field). c.in-Some-number_of.number < length fs) (sym c.as_slice.ensures)
    (field_at_place c.args.self.now.acc.now c.args.self.now.slot c.in-Some.def.now form c.base.result.0 c.in-Some-number_of.number c.base.ensures.same c.in-Some-number_of.ensures.within)

pub returns-then-is_null_there-clause-part : goal.returns-then-is_null_there-clause-part
returns-then-is_null_there-clause-part c = λ f v.
    let s = c.args.self.now in
    null_field s.acc.now c.recall.ensures.legible s.slot s.safe v.room f v.tree v.front (sym (c.is_null_there.ensures v.tree v.stands) ∙ c.if-is_null_there.true) c.args.name.now

pub returns-in-Implicit-clause-part : goal.returns-in-Implicit-clause-part
returns-in-Implicit-clause-part c = λ f v.
    let s = c.args.self.now in
    absurd (not_implicit c.in-Implicit.field-0.now s.acc.now s.slot c.in-Some.def.now (c.def.ensures.same ∙ ap Some (struct_is c.def.result.now c.in-Some.def.now c.in-Some.ensures))
    (subst (λ (b : Body). is_placed s.acc.now s.slot b ≡ true) c.in-Implicit.is s.placed))
