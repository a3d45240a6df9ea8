use Rattle.std.proofs.Common.{◌≡◌, Some, None, sym, ◌∙◌, ap}
use Rattle.std.specs.Prelude.{option_and_then}
use Rattle.ild_value_meaning.proofs.Told.{told}
use Rattle.ild_schema.specs.Parts.{part_named}
use Rattle.ild_schema.specs.Slots.{form_of}
use Rattle.ild_schema.specs.Table.{def_at}
use Rattle.ild_path_steps.proofs.Leading.{any_found, field_found, has_field, has_member, leads_any, leads_field, leads_list, leads_map, leads_member, list_found, map_found, member_found}
use Rattle.ild_path_steps.proofs.part.steps_to.Goals as goal

pub returns-in-Any-clause-lifts : goal.returns-in-Any-clause-lifts
returns-in-Any-clause-lifts c = λ f t d q made stands there partly out.
    let known : form_of c.args.acc.now c.args.slot ≡ Some c.def.result.now = ap (def_at c.args.acc.now) (sym c.base-base.ensures.same) ∙ c.def.ensures.same in
    leads_any c.args.acc.now c.args.slot f t d q c.args.segment.now made there partly out c.def.result.now known c.any_steps.result c.in-Any.is (c.any_steps.ensures.lifts c.args.acc.now t q stands)

pub returns-in-List-clause-lifts : goal.returns-in-List-clause-lifts
returns-in-List-clause-lifts c = λ f t d q made stands there partly out.
    let known : form_of c.args.acc.now c.args.slot ≡ Some c.def.result.now = ap (def_at c.args.acc.now) (sym c.base-base.ensures.same) ∙ c.def.ensures.same in
    leads_list c.args.acc.now c.args.slot f t d q c.args.segment.now made there partly out c.def.result.now known c.item_steps.result c.in-List.elem c.in-List.at c.args.piece.now c.in-List.is stands c.item_steps.ensures

pub returns-in-Map-clause-lifts : goal.returns-in-Map-clause-lifts
returns-in-Map-clause-lifts c = λ f t d q made stands there partly out.
    let known : form_of c.args.acc.now c.args.slot ≡ Some c.def.result.now = ap (def_at c.args.acc.now) (sym c.base-base.ensures.same) ∙ c.def.ensures.same in
    leads_map c.args.acc.now c.args.slot f t d q c.args.segment.now made there partly out c.def.result.now known c.map_steps.result c.in-Map.key c.in-Map.key_at c.in-Map.value c.in-Map.at c.in-Map.form c.args.piece.now c.in-Map.is stands
    (c.map_steps.ensures.lifts c.args.acc.now)

pub returns-in-Some-clause-lifts : goal.returns-in-Some-clause-lifts
returns-in-Some-clause-lifts c = λ f t d q made stands there partly out.
    let known : form_of c.args.acc.now c.args.slot ≡ Some c.def.result.now = ap (def_at c.args.acc.now) (sym c.base-base.ensures.same) ∙ c.def.ensures.same in
    leads_field c.args.acc.now c.args.slot f t d q c.args.segment.now made there partly out c.def.result.now known c.struct_steps.result c.recall.ensures.legible.clear c.args.piece.now stands c.in-Struct.def c.in-Struct.is c.in-Some.number
    (c.in-Some.ensures.same ∙ ap (option_and_then (part_named c.args.segment.now)) c.def.ensures.same) (c.struct_steps.ensures.lifts c.args.acc.now)

pub returns-in-None-clause-lifts : goal.returns-in-None-clause-lifts
returns-in-None-clause-lifts c = λ f t d q made stands there partly out.
    let known : form_of c.args.acc.now c.args.slot ≡ Some c.def.result.now = ap (def_at c.args.acc.now) (sym c.base-base.ensures.same) ∙ c.def.ensures.same in
    has_field c.args.acc.now c.args.slot f t d q c.args.segment.now made there partly out c.def.result.now known None c.recall.ensures.legible.clear c.args.piece.now stands c.in-Struct.def c.in-Struct.is
    (c.in-None.ensures.same ∙ ap (option_and_then (part_named c.args.segment.now)) c.def.ensures.same)

pub returns-in-Some-part_named-clause-lifts : goal.returns-in-Some-part_named-clause-lifts
returns-in-Some-part_named-clause-lifts c = λ f t d q made stands there partly out.
    let known : form_of c.args.acc.now c.args.slot ≡ Some c.def.result.now = ap (def_at c.args.acc.now) (sym c.base-base.ensures.same) ∙ c.def.ensures.same in
    let apart = (told c.args.acc.now (record { table = c.recall.ensures.table; accepted = c.recall.ensures.accepted })).apart in
    leads_member c.args.acc.now c.args.slot f t d q c.args.segment.now made there partly out c.def.result.now known c.union_steps.result apart c.in-Union.def c.in-Union.is c.in-Some-part_named.number
    (c.in-Some-part_named.ensures.same ∙ ap (option_and_then (part_named c.args.segment.now)) c.def.ensures.same) c.union_steps.ensures.lifts

pub returns-in-None-part_named-clause-lifts : goal.returns-in-None-part_named-clause-lifts
returns-in-None-part_named-clause-lifts c = λ f t d q made stands there partly out.
    let known : form_of c.args.acc.now c.args.slot ≡ Some c.def.result.now = ap (def_at c.args.acc.now) (sym c.base-base.ensures.same) ∙ c.def.ensures.same in
    let apart = (told c.args.acc.now (record { table = c.recall.ensures.table; accepted = c.recall.ensures.accepted })).apart in
    has_member c.args.acc.now c.args.slot f t d q c.args.segment.now made there partly out c.def.result.now known None apart c.in-Union.def c.in-Union.is
    (c.in-None-part_named.ensures.same ∙ ap (option_and_then (part_named c.args.segment.now)) c.def.ensures.same)

pub returns-in-Any-clause-leads : goal.returns-in-Any-clause-leads
returns-in-Any-clause-leads c = λ f t d q made stands there partly out.
    let known : form_of c.args.acc.now c.args.slot ≡ Some c.def.result.now = ap (def_at c.args.acc.now) (sym c.base-base.ensures.same) ∙ c.def.ensures.same in
    let facts = told c.args.acc.now (record { table = c.recall.ensures.table; accepted = c.recall.ensures.accepted }) in
    any_found c.args.acc.now c.args.slot f t d q c.args.segment.now made there partly out c.def.result.now known c.any_steps.result facts.any_there c.in-Any.is (c.any_steps.ensures.leads c.args.acc.now t d stands)

pub returns-in-List-clause-leads : goal.returns-in-List-clause-leads
returns-in-List-clause-leads c = λ f t d q made stands there partly out.
    let known : form_of c.args.acc.now c.args.slot ≡ Some c.def.result.now = ap (def_at c.args.acc.now) (sym c.base-base.ensures.same) ∙ c.def.ensures.same in
    list_found c.args.acc.now c.args.slot f t d q c.args.segment.now made there partly out c.def.result.now known c.item_steps.result c.in-List.elem c.in-List.at c.args.piece.now c.in-List.is stands c.item_steps.ensures

pub returns-in-Map-clause-leads : goal.returns-in-Map-clause-leads
returns-in-Map-clause-leads c = λ f t d q made stands there partly out.
    let known : form_of c.args.acc.now c.args.slot ≡ Some c.def.result.now = ap (def_at c.args.acc.now) (sym c.base-base.ensures.same) ∙ c.def.ensures.same in
    map_found c.args.acc.now c.args.slot f t d q c.args.segment.now made there partly out c.def.result.now known c.map_steps.result c.in-Map.key c.in-Map.key_at c.in-Map.value c.in-Map.at c.in-Map.form c.args.piece.now c.in-Map.is stands (c.map_steps.ensures.leads c.args.acc.now)

pub returns-in-Some-clause-leads : goal.returns-in-Some-clause-leads
returns-in-Some-clause-leads c = λ f t d q made stands there partly out.
    let known : form_of c.args.acc.now c.args.slot ≡ Some c.def.result.now = ap (def_at c.args.acc.now) (sym c.base-base.ensures.same) ∙ c.def.ensures.same in
    field_found c.args.acc.now c.args.slot f t d q c.args.segment.now made there partly out c.def.result.now known c.struct_steps.result c.recall.ensures.legible.clear c.args.piece.now stands c.in-Struct.def c.in-Struct.is c.in-Some.number (c.in-Some.ensures.same ∙ ap (option_and_then (part_named c.args.segment.now)) c.def.ensures.same) (c.struct_steps.ensures.leads c.args.acc.now)

pub returns-in-Some-part_named-clause-leads : goal.returns-in-Some-part_named-clause-leads
returns-in-Some-part_named-clause-leads c = λ f t d q made stands there partly out.
    let known : form_of c.args.acc.now c.args.slot ≡ Some c.def.result.now = ap (def_at c.args.acc.now) (sym c.base-base.ensures.same) ∙ c.def.ensures.same in
    let facts = told c.args.acc.now (record { table = c.recall.ensures.table; accepted = c.recall.ensures.accepted }) in
    member_found c.args.acc.now c.args.slot f t d q c.args.segment.now made there partly out c.def.result.now known c.union_steps.result c.recall.ensures.legible.clear facts.apart c.in-Union.def c.in-Union.is c.in-Some-part_named.number (c.in-Some-part_named.ensures.same ∙ ap (option_and_then (part_named c.args.segment.now)) c.def.ensures.same) c.union_steps.ensures.leads
