use Rattle.std.proofs.Common.{Some, sym, ◌∙◌, ap}
use Rattle.std.specs.Prelude.{option_and_then, option_map}
use Rattle.ild_data.specs.Data as T
use Rattle.ild_path_block.specs.Items.{are_pairs}
use Rattle.ild_path_item.proofs.Joins.{field_there}
use Rattle.ild_path_item.proofs.Members.{member_told}
use Rattle.ild_path_item.proofs.Viewing.{bare_type, known_form, no_text, refusing}
use Rattle.ild_path_item.proofs.text.new_text.Goals as goal
use Rattle.ild_path_item.specs.Texts.{borrowed_text}
use Rattle.ild_schema.specs.Parts.{part_named}
use Rattle.ild_schema.specs.declared.def.TypeDef.TheVariants as D
use Rattle.ild_typed.specs.At.{InSlot}
use Rattle.ild_view.specs.View.{slot_of, table_of}

pub returns-in-Union : goal.returns-in-Union
returns-in-Union c = λ f o j view holds made lets.
    let v = c.args.view.now in
    let s = c.args.segment.now in
    let u = c.in-Union.def in
    let q : InSlot = (slot_of v, f) in
    let known = known_form v c.schema-acc.result.now c.slot.result c.base-base.result.0 c.def.result.now c.schema-acc.ensures c.slot.ensures c.base-base.ensures.same c.def.ensures.same ∙ ap Some c.in-Union.is in
    member_told (table_of v) q s u known o (borrowed_text c.args.new) j c.member_text.result made holds lets
    (λ k t numbered is. c.member_text.ensures k t (c.part_named.ensures.same ∙ ap (option_and_then (part_named s)) (c.def.ensures.same ∙ ap Some c.in-Union.is) ∙ numbered) is)

pub returns-in-None : goal.returns-in-None
returns-in-None c = λ f o j view holds made lets.
    let v = c.args.view.now in
    let q : InSlot = (slot_of v, f) in
    let s = c.args.segment.now in
    let r = c.in-Struct.def in
    let known = known_form v c.schema-acc.result.now c.slot.result c.base-base.result.0 c.def.result.now c.schema-acc.ensures c.slot.ensures c.base-base.ensures.same c.def.ensures.same ∙ ap Some c.in-Struct.is in
    absurd
    (field_there (table_of v) q s r (T.text j) known o (option_map T.text (borrowed_text c.args.new)) made holds lets
    (sym c.in-None.is ∙ c.part_named-in-Struct.ensures.same ∙ ap (option_and_then (part_named s)) (c.def.ensures.same ∙ ap Some c.in-Struct.is)))

pub returns-in-Map : goal.returns-in-Map
returns-in-Map c = λ f o j view holds made lets.
    let v = c.args.view.now in
    let m = c.in-Map in
    let known = known_form v c.schema-acc.result.now c.slot.result c.base-base.result.0 c.def.result.now c.schema-acc.ensures c.slot.ensures c.base-base.ensures.same c.def.ensures.same ∙ ap Some m.is in
    c.pairs_text.ensures (ap are_pairs known ∙ refusing (table_of v) (slot_of v, f) (D.Map m.key m.key_at m.value m.at m.form) j known made holds) f o j view holds made lets

pub returns-in_default : goal.returns-in_default
returns-in_default c = λ f o j view holds made lets.
    let v = c.args.view.now in
    let known = known_form v c.schema-acc.result.now c.slot.result c.base-base.result.0 c.def.result.now c.schema-acc.ensures c.slot.ensures c.base-base.ensures.same c.def.ensures.same in
    no_text (table_of v) (slot_of v, f) c.def.result.now j known made holds (bare_type c.def.result.now c.in_default.not-Union c.in_default.not-Struct c.in_default.not-Map)
