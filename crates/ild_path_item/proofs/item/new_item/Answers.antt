use Rattle.std.proofs.Common.{Some, sym, ◌∙◌, ap, subst}
use Rattle.std.specs.Prelude.{option_and_then}
use Rattle.ild_path_item.proofs.Members.{member_becomes}
use Rattle.ild_path_item.proofs.Rewriting.{rewritten}
use Rattle.ild_path_item.proofs.Viewing.{known_form, plain_type}
use Rattle.ild_path_item.proofs.item.new_item.Goals as goal
use Rattle.ild_path_last.specs.Change.{NewIs}
use Rattle.ild_schema.specs.Parts.{part_named}
use Rattle.ild_typed.specs.At.{InSlot}
use Rattle.ild_typed.specs.Composed.{union_form}
use Rattle.ild_view.specs.View.{slot_of, table_of}

pub returns-in-Union : goal.returns-in-Union
returns-in-Union c = λ f w view holds allows.
    let v = c.args.view.now in
    let rows = table_of v in
    let q : InSlot = (slot_of v, f) in
    let s = c.args.segment.now in
    let edit = c.args.edit.now in
    let u = c.in-Union.def in
    let known = known_form v c.schema-acc.result.now c.slot.result c.base-base.result.0 c.def-def.result.now c.schema-acc.ensures c.slot.ensures c.base-base.ensures.same c.def-def.ensures.same ∙ ap Some c.in-Union.is in
    let x = member_becomes rows q s w u known edit view.tree view.front.tree holds allows in
    rewritten rows edit w q s (union_form u.form u.members (x.number, x.part)) c.member_item.result x.is
    (c.member_item.ensures x.number x.part (c.part_named.ensures.same ∙ ap (option_and_then (part_named s)) (c.def-def.ensures.same ∙ ap Some c.in-Union.is) ∙ x.numbered) (subst (λ o. NewIs o (Some x.part)) (sym c.node_of.ensures) x.new))

pub returns-then-is_text_form : goal.returns-then-is_text_form
returns-then-is_text_form c =
    let v = c.args.view.now in
    let known = known_form v c.schema-acc.result.now c.slot.result c.base-base.result.0 c.def-def.result.now c.schema-acc.ensures c.slot.ensures c.base-base.ensures.same c.def-def.ensures.same in
    c.of_texts.ensures c.def-def.result.now known (sym c.is_text_form.ensures ∙ c.if-is_text_form.true)

pub returns-in_default : goal.returns-in_default
returns-in_default c =
    let v = c.args.view.now in
    let known = known_form v c.schema-acc.result.now c.slot.result c.base-base.result.0 c.def-def.result.now c.schema-acc.ensures c.slot.ensures c.base-base.ensures.same c.def-def.ensures.same in
    c.changed_item.ensures c.def-def.result.now known (plain_type c.def-def.result.now (sym c.is_text_form.ensures ∙ c.if-is_text_form.false) c.in_default.not-Union)
