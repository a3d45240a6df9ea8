use Rattle.std.proofs.Common.{◌≡◌, length, true, Some, None, sym, ◌∙◌, ap, subst}
use Rattle.std.specs.Prelude.{slice_get}
use Rattle.std.proofs.Math.Logic.{∥∥₁_map}
use Rattle.ild_schema.specs.Slots.{form_of}
use Rattle.ild_schema.specs.Table.{IsWithin}
use Rattle.ild_schema.specs.declared.def.TypeDef.{TypeDef}
use Rattle.ild_schema.specs.declared.def.TypeDef.TheVariants as D
use Rattle.ild_view.proofs.Fielding.{member_front, member_indexed, member_out}
use Rattle.ild_view.proofs.Parting.{seen_null}
use Rattle.ild_view.proofs.Placing.{member_in, member_placed}
use Rattle.ild_view.proofs.Reading.{union_is, union_kept, union_plain}
use Rattle.ild_view.specs.Body.{BodyStands, is_placed}
use Rattle.ild_view.specs.Parts.{HandsOutMember, member_held}
use Rattle.ild_view.specs.declared.body.Body.{Body}
use Rattle.ild_view.proofs.view.View.member.Goals as goal

pub returns-then-is_null_there : goal.returns-then-is_null_there
returns-then-is_null_there c = λ f v.
    let s = c.args.self.now in
    let is = sym (c.is_null_there.ensures v.tree v.stands) ∙ c.if-is_null_there.true in
    subst (λ h. HandsOutMember s.acc.now (member_held h) None) (sym (seen_null s.acc.now c.recall.ensures.legible.clear s.slot s.safe v.room f v.tree v.front is)) tt

pub placed-view-requires-clause-within : goal.placed-view-requires-clause-within
placed-view-requires-clause-within c =
    let form : form_of c.args.self.now.acc.now c.args.self.now.slot ≡ Some (D.Union c.in-Some.def.now) = c.def.ensures.same ∙ ap Some (union_is c.def.result.now c.in-Some.def.now c.in-Some.ensures) in
    let at : slice_get c.in-Some.def.now.members c.in-Ok.number ≡ Some c.index-as_slice-number.result =
    member_indexed c.args.self.now.acc.now c.args.self.now.slot c.in-Some.def.now form c.in-Ok.number c.in-Ok.ensures.within c.as_slice.result.now c.as_slice.ensures c.index-as_slice-number.result c.index-as_slice-number.is in
    member_in c.args.self.now.acc.now c.recall.ensures.legible c.args.self.now.slot c.in-Some.def.now form c.in-Ok.number c.index-as_slice-number.result at
    (subst (λ (d : TypeDef). IsWithin (length c.args.self.now.acc.now) d) (union_is c.def.result.now c.in-Some.def.now c.in-Some.ensures) c.def.ensures.within)

pub placed-view-requires-clause-placed : goal.placed-view-requires-clause-placed
placed-view-requires-clause-placed c =
    let form : form_of c.args.self.now.acc.now c.args.self.now.slot ≡ Some (D.Union c.in-Some.def.now) = c.def.ensures.same ∙ ap Some (union_is c.def.result.now c.in-Some.def.now c.in-Some.ensures) in
    let at : slice_get c.in-Some.def.now.members c.in-Ok.number ≡ Some c.index-as_slice-number.result =
    member_indexed c.args.self.now.acc.now c.args.self.now.slot c.in-Some.def.now form c.in-Ok.number c.in-Ok.ensures.within c.as_slice.result.now c.as_slice.ensures c.index-as_slice-number.result c.index-as_slice-number.is in
    let s = c.args.self.now in
    let placed = subst (λ (b : Body). is_placed s.acc.now s.slot b ≡ true) c.in-Held.is s.placed in
    member_placed s.acc.now c.recall.ensures.legible s.slot c.in-Some.def.now form c.in-Held.piece c.in-Ok.part (union_plain s.acc.now s.slot c.in-Some.def.now form c.in-Held.piece placed) c.in-Ok.ensures.passed
    c.in-Ok.number c.index-as_slice-number.result at

pub placed-view-requires-clause-front : goal.placed-view-requires-clause-front
placed-view-requires-clause-front c =
    let form : form_of c.args.self.now.acc.now c.args.self.now.slot ≡ Some (D.Union c.in-Some.def.now) = c.def.ensures.same ∙ ap Some (union_is c.def.result.now c.in-Some.def.now c.in-Some.ensures) in
    let at : slice_get c.in-Some.def.now.members c.in-Ok.number ≡ Some c.index-as_slice-number.result =
    member_indexed c.args.self.now.acc.now c.args.self.now.slot c.in-Some.def.now form c.in-Ok.number c.in-Ok.ensures.within c.as_slice.result.now c.as_slice.ensures c.index-as_slice-number.result c.index-as_slice-number.is in
    ∥∥₁_map c.args.self.now.stands (λ h.
    let s = c.args.self.now in
    let some = sym (c.is_null_there.ensures h.tree h.stands) ∙ c.if-is_null_there.false in
    let stands = subst (λ (b : Body). BodyStands s.acc.now b h.tree) c.in-Held.is h.stands in
    member_front s.acc.now c.recall.ensures.legible s.slot s.safe h.room h.value h.tree h.front some c.in-Some.def.now form c.in-Ok.number c.index-as_slice-number.result c.in-Ok.part at
    (c.in-Ok.ensures.answer h.tree stands))

pub returns-in-Ok : goal.returns-in-Ok
returns-in-Ok c = λ f v.
    let form : form_of c.args.self.now.acc.now c.args.self.now.slot ≡ Some (D.Union c.in-Some.def.now) = c.def.ensures.same ∙ ap Some (union_is c.def.result.now c.in-Some.def.now c.in-Some.ensures) in
    let at : slice_get c.in-Some.def.now.members c.in-Ok.number ≡ Some c.index-as_slice-number.result =
    member_indexed c.args.self.now.acc.now c.args.self.now.slot c.in-Some.def.now form c.in-Ok.number c.in-Ok.ensures.within c.as_slice.result.now c.as_slice.ensures c.index-as_slice-number.result c.index-as_slice-number.is in
    let s = c.args.self.now in
    let some = sym (c.is_null_there.ensures v.tree v.stands) ∙ c.if-is_null_there.false in
    let stands = subst (λ (b : Body). BodyStands s.acc.now b v.tree) c.in-Held.is v.stands in
    member_out s.acc.now c.recall.ensures.legible s.slot s.safe v.room f v.tree v.front some c.in-Some.def.now form c.in-Ok.number c.index-as_slice-number.result c.in-Ok.part at
    (c.in-Ok.ensures.answer v.tree stands) c.as_str.result c.placed-view.result c.as_str.ensures.same c.placed-view.ensures.table c.placed-view.ensures.slot c.placed-view.ensures.body

pub returns-in-Err : goal.returns-in-Err
returns-in-Err c = λ f v.
    let form : form_of c.args.self.now.acc.now c.args.self.now.slot ≡ Some (D.Union c.in-Some.def.now) = c.def.ensures.same ∙ ap Some (union_is c.def.result.now c.in-Some.def.now c.in-Some.ensures) in
    let s = c.args.self.now in
    let some = sym (c.is_null_there.ensures v.tree v.stands) ∙ c.if-is_null_there.false in
    let stands = subst (λ (b : Body). BodyStands s.acc.now b v.tree) c.in-Held.is v.stands in
    absurd (union_kept s.acc.now c.recall.ensures.legible s.slot s.safe v.room f v.tree v.front some c.in-Some.def.now form c.in-Held.piece c.in-Err.field-0 stands (c.in-Err.ensures.answer v.tree stands))
