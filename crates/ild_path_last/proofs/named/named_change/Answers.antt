use Rattle.std.proofs.Common.{◌≡◌, Some, refl, sym, ◌∙◌, ap}
use Rattle.std.specs.Prelude.{option_and_then}
use Rattle.ild_layer_piece.specs.Pieces.{StandsFor}
use Rattle.ild_schema.specs.Parts.{part_named}
use Rattle.ild_schema.specs.Slots.{form_of}
use Rattle.ild_schema.specs.Table.{def_at}
use Rattle.ild_path_last.proofs.Naming.{any_named, field_named_so, map_named, no_field, none_named, union_named}
use Rattle.ild_path_last.proofs.named.named_change.Goals as goal
use Rattle.ild_path_last.specs.Change.{NewIs}
use Rattle.ild_path_last.specs.declared.change.LastChange.TheVariants as C

pub returns-in-Any : goal.returns-in-Any
returns-in-Any c = λ f t new d x u made stands parts makes new_is shown.
    let known : form_of c.args.acc.now c.args.slot ≡ Some c.def.result.now = ap (def_at c.args.acc.now) (sym c.base-base.ensures.same) ∙ c.def.ensures.same in
    any_named c.args.acc.now c.args.slot f t c.args.segment.now new d x u made parts makes c.def.result.now known c.key_change.result c.in-Any.is (c.key_change.ensures t d x u stands (c.is_there.ensures d new_is) shown)

pub returns-in-Map : goal.returns-in-Map
returns-in-Map c = λ f t new d x u made stands parts makes new_is shown.
    let known : form_of c.args.acc.now c.args.slot ≡ Some c.def.result.now = ap (def_at c.args.acc.now) (sym c.base-base.ensures.same) ∙ c.def.ensures.same in
    map_named c.args.acc.now c.args.slot f t c.args.segment.now new d x u made parts makes c.def.result.now known c.map_change.result c.in-Map.key c.in-Map.key_at c.in-Map.value c.in-Map.at c.in-Map.form (StandsFor c.args.acc.now c.args.piece.now) _ c.in-Map.is
    stands (c.is_there-in-Map.ensures d new_is) shown c.map_change.ensures

pub returns-in-Some : goal.returns-in-Some
returns-in-Some c = λ f t new d x u made stands parts makes new_is shown.
    let known : form_of c.args.acc.now c.args.slot ≡ Some c.def.result.now = ap (def_at c.args.acc.now) (sym c.base-base.ensures.same) ∙ c.def.ensures.same in
    field_named_so c.args.acc.now c.args.slot f t c.args.segment.now new d x u made parts makes c.def.result.now known c.struct_change.result c.in-Struct.def c.in-Struct.is c.recall.ensures.legible.clear (StandsFor c.args.acc.now c.args.piece.now)
    (NewIs c.args.new) c.in-Some.number (c.in-Some.ensures.same ∙ ap (option_and_then (part_named c.args.segment.now)) c.def.ensures.same) stands new_is shown c.struct_change.ensures

pub returns-in-None : goal.returns-in-None
returns-in-None c = λ f t new d x u made stands parts makes new_is shown.
    let known : form_of c.args.acc.now c.args.slot ≡ Some c.def.result.now = ap (def_at c.args.acc.now) (sym c.base-base.ensures.same) ∙ c.def.ensures.same in
    no_field c.args.acc.now c.args.slot f t c.args.segment.now new d x u made parts makes c.def.result.now known C.Nothing c.in-Struct.def c.in-Struct.is
    (c.in-None.ensures.same ∙ ap (option_and_then (part_named c.args.segment.now)) c.def.ensures.same) refl

pub returns-in-Union : goal.returns-in-Union
returns-in-Union c = λ f t new d x u made stands parts makes new_is shown.
    let known : form_of c.args.acc.now c.args.slot ≡ Some c.def.result.now = ap (def_at c.args.acc.now) (sym c.base-base.ensures.same) ∙ c.def.ensures.same in
    union_named c.args.acc.now c.args.slot f t c.args.segment.now new d x u made parts makes c.def.result.now known C.Whole _ c.in-Union.is refl

pub returns-in_default : goal.returns-in_default
returns-in_default c = λ f t new d x u made stands parts makes new_is shown.
    let known : form_of c.args.acc.now c.args.slot ≡ Some c.def.result.now = ap (def_at c.args.acc.now) (sym c.base-base.ensures.same) ∙ c.def.ensures.same in
    none_named c.args.acc.now c.args.slot f t c.args.segment.now new d x u made parts makes c.def.result.now known C.Nothing c.in_default.not-Any c.in_default.not-Map c.in_default.not-Struct c.in_default.not-Union
