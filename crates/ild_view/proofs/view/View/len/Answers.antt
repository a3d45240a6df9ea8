use Rattle.std.proofs.Common.{List, Some, sym, ◌∙◌, ap, refl, subst}
use Rattle.ild_schema.specs.declared.def.Field.{Field}
use Rattle.ild_schema.specs.declared.def.TypeDef.TheVariants as D
use Rattle.ild_view.proofs.Counting.{list_count, map_counted, struct_count}
use Rattle.ild_view.proofs.Mapped.{map_delims}
use Rattle.ild_view.proofs.Ordering.{map_at}
use Rattle.ild_view.proofs.Parting.{seen_null}
use Rattle.ild_view.proofs.Reading.{outer_free, struct_kept}
use Rattle.ild_view.specs.Body.{BodyStands}
use Rattle.ild_view.specs.Counted.{MayLack, count_in}
use Rattle.ild_view.specs.declared.body.Body.{Body}
use Rattle.ild_view.proofs.view.View.len.Goals as goal

pub returns-then-is_null_there : goal.returns-then-is_null_there
returns-then-is_null_there c = λ f v.
    let s = c.args.self.now in
    let is = sym (c.is_null_there.ensures v.tree v.stands) ∙ c.if-is_null_there.true in
    sym (ap count_in (seen_null s.acc.now c.recall.ensures.legible.clear s.slot s.safe v.room f v.tree v.front is))

pub map_count-requires : goal.map_count-requires
map_count-requires c =
    map_delims c.args.self.now.acc.now c.recall.ensures.legible c.args.self.now.slot c.in-Map.key c.in-Map.key_at c.in-Map.value c.in-Map.at c.in-Map.form (c.def.ensures.same ∙ ap Some c.in-Map.is)

pub returns-in-List : goal.returns-in-List
returns-in-List c = λ f v.
    let s = c.args.self.now in
    let some = sym (c.is_null_there.ensures v.tree v.stands) ∙ c.if-is_null_there.false in
    let known = c.def.ensures.same ∙ ap Some c.in-List.is in
    c.count.ensures s.acc.now v.tree (outer_free s.acc.now s.slot s.body (D.List c.in-List.elem c.in-List.at) known refl s.placed) v.stands
    ∙ list_count s.acc.now c.recall.ensures.legible s.slot s.safe v.room f v.tree v.front some c.in-List.elem c.in-List.at known

pub returns-in-Map : goal.returns-in-Map
returns-in-Map c = λ f v.
    let s = c.args.self.now in
    let some = sym (c.is_null_there.ensures v.tree v.stands) ∙ c.if-is_null_there.false in
    let known = c.def.ensures.same ∙ ap Some c.in-Map.is in
    let free = outer_free s.acc.now s.slot s.body (D.Map c.in-Map.key c.in-Map.key_at c.in-Map.value c.in-Map.at c.in-Map.form) known refl s.placed in
    let x = map_at s.acc.now c.recall.ensures.legible s.slot s.safe v.room f v.tree v.front some c.in-Map.key c.in-Map.key_at c.in-Map.value c.in-Map.at c.in-Map.form known in
    map_counted s.acc.now c.recall.ensures.legible s.slot s.safe v.room f v.tree v.front some c.in-Map.form x.parts c.in-Map.value c.map_count.result x.keyed (c.map_count.ensures v.tree x.parts free v.stands x.shows)

pub present_count-requires : goal.present_count-requires
present_count-requires c = c.in-Ok.ensures.fields c.in-Struct.def (c.def.ensures.same ∙ ap Some c.in-Struct.is) ∙ sym c.as_slice.ensures

pub returns-in-Ok : goal.returns-in-Ok
returns-in-Ok c = λ f v.
    let s = c.args.self.now in
    let some = sym (c.is_null_there.ensures v.tree v.stands) ∙ c.if-is_null_there.false in
    let known = c.def.ensures.same ∙ ap Some c.in-Struct.is in
    let stands = subst (λ (b : Body). BodyStands s.acc.now b v.tree) c.in-Held.is v.stands in
    let p = c.in-Ok.ensures.parts v.tree stands in
    let k = struct_count s.acc.now c.recall.ensures.legible s.slot s.safe v.room f v.tree v.front some c.in-Struct.def known p.0 p.1.layered in
    ap Some (c.present_count.ensures s.acc.now s.slot.ty.0 v.tree p.0 p.1 (subst (λ (fs : List Field). MayLack fs p.0) (sym c.as_slice.ensures) k.0)) ∙ k.1

pub returns-in-Err : goal.returns-in-Err
returns-in-Err c = λ f v.
    let s = c.args.self.now in
    let some = sym (c.is_null_there.ensures v.tree v.stands) ∙ c.if-is_null_there.false in
    let known = c.def.ensures.same ∙ ap Some c.in-Struct.is in
    let stands = subst (λ (b : Body). BodyStands s.acc.now b v.tree) c.in-Held.is v.stands in
    absurd (struct_kept s.acc.now c.recall.ensures.legible s.slot s.safe v.room f v.tree v.front some c.in-Struct.def known c.in-Held.piece c.in-Err.field-0 stands (c.in-Err.ensures.refused v.tree stands))
