use Rattle.std.proofs.Common.{List, ap}
use Rattle.ild_cbor.specs.declared.kind.Kind.TheVariants as K
use Rattle.ild_schema.specs.declared.def.TypeDef.TheVariants as D
use Rattle.ild_schema.specs.declared.row.Row.{Row}
use Rattle.ild_typed.specs.Schema.{IsSchema}
use Rattle.ild_layer_fields.specs.Told.{scalar_kind}
use Rattle.ild_layer_parts.proofs.Scalars.{type_is}
use Rattle.ild_layer_parts.proofs.Passing.{kind_fits}
use Rattle.ild_layer_parts.proofs.leaf.leaf_kind.Goals as goal

pub returns-in-Bool : goal.returns-in-Bool
returns-in-Bool c =
    let rows : List Row = c.args.acc.now in
    let schema : IsSchema rows = record { table = c.recall.ensures.table; accepted = c.recall.ensures.accepted } in
    kind_fits rows schema c.recall.ensures.legible c.args.slot c.requires K.Bool
    (λ d is. ap scalar_kind (type_is rows c.args.slot.ty.0 c.base.result.0 c.def.result.now D.Bool d c.base.ensures.same c.def.ensures.same c.in-Bool.is is))

pub returns-in-Text : goal.returns-in-Text
returns-in-Text c =
    let rows : List Row = c.args.acc.now in
    let schema : IsSchema rows = record { table = c.recall.ensures.table; accepted = c.recall.ensures.accepted } in
    kind_fits rows schema c.recall.ensures.legible c.args.slot c.requires K.Text
    (λ d is. ap scalar_kind (type_is rows c.args.slot.ty.0 c.base.result.0 c.def.result.now D.Text d c.base.ensures.same c.def.ensures.same c.in-Text.is is))

pub returns-in-Bytes : goal.returns-in-Bytes
returns-in-Bytes c =
    let rows : List Row = c.args.acc.now in
    let schema : IsSchema rows = record { table = c.recall.ensures.table; accepted = c.recall.ensures.accepted } in
    kind_fits rows schema c.recall.ensures.legible c.args.slot c.requires K.Bytes
    (λ d is. ap scalar_kind (type_is rows c.args.slot.ty.0 c.base.result.0 c.def.result.now D.Bytes d c.base.ensures.same c.def.ensures.same c.in-Bytes.is is))

pub returns-in-Int : goal.returns-in-Int
returns-in-Int c =
    let rows : List Row = c.args.acc.now in
    let schema : IsSchema rows = record { table = c.recall.ensures.table; accepted = c.recall.ensures.accepted } in
    kind_fits rows schema c.recall.ensures.legible c.args.slot c.requires K.Int
    (λ d is. ap scalar_kind (type_is rows c.args.slot.ty.0 c.base.result.0 c.def.result.now D.Int d c.base.ensures.same c.def.ensures.same c.in-Int.is is))

pub returns-in-Link : goal.returns-in-Link
returns-in-Link c =
    let rows : List Row = c.args.acc.now in
    let schema : IsSchema rows = record { table = c.recall.ensures.table; accepted = c.recall.ensures.accepted } in
    kind_fits rows schema c.recall.ensures.legible c.args.slot c.requires K.Link
    (λ d is. ap scalar_kind (type_is rows c.args.slot.ty.0 c.base.result.0 c.def.result.now (D.Link c.in-Link.field-0) d c.base.ensures.same c.def.ensures.same c.in-Link.is is))
