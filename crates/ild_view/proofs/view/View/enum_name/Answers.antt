use Rattle.std.proofs.Common.{◌≡◌, ℕ, List, get_or, Some, sym, ◌∙◌, ap, subst}
use Rattle.std.specs.Prelude.{slice_get}
use Rattle.ild_data.proofs.Gets.{got_at}
use Rattle.ild_schema.specs.Copies.{base}
use Rattle.ild_schema.specs.Slots.{form_of}
use Rattle.ild_schema.specs.declared.def.EnumMember.{EnumMember}
use Rattle.ild_schema.specs.declared.def.TypeDef.TheVariants as D
use Rattle.ild_view.proofs.Reading.{enum_is, enum_kept, enum_named, part_low}
use Rattle.ild_view.specs.Body.{BodyStands}
use Rattle.ild_view.specs.declared.body.Body.{Body}
use Rattle.ild_view.proofs.view.View.enum_name.Goals as goal

pub returns-in-Ok : goal.returns-in-Ok
returns-in-Ok c = λ f v.
    let s = c.args.self.now in
    let e = c.in-Some.def.now in
    let m : EnumMember = c.index-as_slice-number.result in
    let n = c.in-Ok.number in
    let some = sym (c.is_null_there.ensures v.tree v.stands) ∙ c.if-is_null_there.false in
    let form : form_of s.acc.now s.slot ≡ Some (D.Enum e) = c.def.ensures.same ∙ ap Some (enum_is c.def.result.now e c.in-Some.ensures) in
    let is : m ≡ get_or e.members n m = c.index-as_slice-number.is ∙ ap (λ (ms : List EnumMember). get_or ms n m) c.as_slice.ensures in
    let got : slice_get e.members n ≡ Some m = got_at e.members n m (part_low s.acc.now (base s.acc.now s.slot.ty.0) n (D.Enum e) form c.in-Ok.ensures.within) is in
    let stands = subst (λ (b : Body). BodyStands s.acc.now b v.tree) c.in-Held.is v.stands in
    ap (λ (k : List ℕ). Some k) c.as_str.ensures.same ∙ ap (λ (k : EnumMember). Some k.name) (sym c.index-as_slice-number.is) ∙ enum_named s.acc.now c.recall.ensures.legible s.slot s.safe v.room f v.tree v.front some e form n m (c.in-Ok.ensures.answer v.tree stands) got

pub returns-in-Err : goal.returns-in-Err
returns-in-Err c = λ f v.
    let s = c.args.self.now in
    let e = c.in-Some.def.now in
    let some = sym (c.is_null_there.ensures v.tree v.stands) ∙ c.if-is_null_there.false in
    let form : form_of s.acc.now s.slot ≡ Some (D.Enum e) = c.def.ensures.same ∙ ap Some (enum_is c.def.result.now e c.in-Some.ensures) in
    let stands = subst (λ (b : Body). BodyStands s.acc.now b v.tree) c.in-Held.is v.stands in
    absurd (enum_kept s.acc.now c.recall.ensures.legible s.slot s.safe v.room f v.tree v.front some e form c.in-Held.piece c.in-Err.field-0 stands (c.in-Err.ensures.answer v.tree stands))
