use Rattle.std.proofs.Common.{List, refl, sym, ◌∙◌}
use Rattle.std.proofs.Math.Logic.{∥∥₁_elim}
use Rattle.std.proofs.Props.{props}
use Rattle.ild_cbor.specs.Scalar.{boolean_of, int_of, link_of}
use Rattle.ild_data.specs.Data as T
use Rattle.ild_schema.specs.declared.def.TypeDef.TheVariants as D
use Rattle.ild_schema.specs.declared.row.Row.{Row}
use Rattle.ild_schema.specs.Value as V
use Rattle.ild_typed.specs.Layer as L
use Rattle.ild_typed.specs.Layer.{as_boolean, as_bytes, as_integer, as_link, as_text}
use Rattle.ild_typed.specs.Strings.{bytes_in, text_in}
use Rattle.ild_typed.specs.Schema.{IsSchema}
use Rattle.ild_data.specs.CidView.{cid_bytes}
use Rattle.ild_data.specs.Seen.{data_of}
use Rattle.ild_open_parts.proofs.Making.{any_leaf, boolean_leaf, bytes_leaf, form_is, int_leaf, layered_leaf, link_leaf, mapped_is, none_mapped, shows_one, text_leaf}
use Rattle.ild_open_parts.proofs.Typing.{leaf_slot, never_refused, no_leaf}
use Rattle.ild_open_parts.proofs.leaves.leaf.Goals as goal

pub returns-in-Some-clause-ok : goal.returns-in-Some-clause-ok
returns-in-Some-clause-ok c = λ t stands.
    let rows : List Row = c.args.acc.now in
    let schema : IsSchema rows = record { table = c.recall.ensures.table; accepted = c.recall.ensures.accepted } in
    boolean_leaf rows schema c.args.slot t c.in-Some.truth (form_is rows c.args.slot c.base.result.0 c.def.result.now D.Bool c.base.ensures.same c.def.ensures.same c.in-Bool.is) (sym c.in-Some.is ∙ c.boolean.ensures rows t stands)

pub returns-in-Some-int-clause-ok : goal.returns-in-Some-int-clause-ok
returns-in-Some-int-clause-ok c = λ t stands.
    let rows : List Row = c.args.acc.now in
    let schema : IsSchema rows = record { table = c.recall.ensures.table; accepted = c.recall.ensures.accepted } in
    int_leaf rows schema c.args.slot t c.in-Some-int.integer (form_is rows c.args.slot c.base.result.0 c.def.result.now D.Int c.base.ensures.same c.def.ensures.same c.in-Int.is) (sym c.in-Some-int.is ∙ c.int.ensures rows t stands)

pub returns-in_ok-of-in-Some-text-clause-ok : goal.returns-in_ok-of-in-Some-text-clause-ok
returns-in_ok-of-in-Some-text-clause-ok c = λ t stands.
    let rows : List Row = c.args.acc.now in
    let schema : IsSchema rows = record { table = c.recall.ensures.table; accepted = c.recall.ensures.accepted } in
    text_leaf rows schema c.args.slot t c.in_ok-of-in-Some-text.field-0 c.in-Some-text.text.now (form_is rows c.args.slot c.base.result.0 c.def.result.now D.Text c.base.ensures.same c.def.ensures.same c.in-Text.is) (mapped_is (λ s. s.now) c.text.result c.in-Some-text.text _ c.in-Some-text.is (c.text.ensures rows t stands)) c.in_ok-of-in-Some-text.ensures

pub returns-in_ok-of-in-Some-bytes-clause-ok : goal.returns-in_ok-of-in-Some-bytes-clause-ok
returns-in_ok-of-in-Some-bytes-clause-ok c = λ t stands.
    let rows : List Row = c.args.acc.now in
    let schema : IsSchema rows = record { table = c.recall.ensures.table; accepted = c.recall.ensures.accepted } in
    bytes_leaf rows schema c.args.slot t c.in_ok-of-in-Some-bytes.field-0 c.in-Some-bytes.bytes.now (form_is rows c.args.slot c.base.result.0 c.def.result.now D.Bytes c.base.ensures.same c.def.ensures.same c.in-Bytes.is) (mapped_is (λ s. s.now) c.bytes.result c.in-Some-bytes.bytes _ c.in-Some-bytes.is (c.bytes.ensures rows t stands)) c.in_ok-of-in-Some-bytes.ensures

pub returns-in_ok-own-in-Some-link-clause-ok : goal.returns-in_ok-own-in-Some-link-clause-ok
returns-in_ok-own-in-Some-link-clause-ok c = λ t stands.
    let rows : List Row = c.args.acc.now in
    let schema : IsSchema rows = record { table = c.recall.ensures.table; accepted = c.recall.ensures.accepted } in
    link_leaf rows schema c.args.slot t c.in-Link.field-0 c.in_ok-own-in-Some-link.field-0 (cid_bytes c.in-Some-link.cid)
    (form_is rows c.args.slot c.base.result.0 c.def.result.now (D.Link c.in-Link.field-0) c.base.ensures.same c.def.ensures.same c.in-Link.is) (mapped_is cid_bytes c.link.result c.in-Some-link.cid _ c.in-Some-link.is (c.link.ensures rows t stands)) c.in_ok-own-in-Some-link.ensures

pub returns-in-Ok-clause-ok : goal.returns-in-Ok-clause-ok
returns-in-Ok-clause-ok c = λ t stands.
    let rows : List Row = c.args.acc.now in
    let schema : IsSchema rows = record { table = c.recall.ensures.table; accepted = c.recall.ensures.accepted } in
    layered_leaf rows schema c.args.slot t (D.Unit c.in-Unit.field-0) L.unit V.unit (form_is rows c.args.slot c.base.result.0 c.def.result.now (D.Unit c.in-Unit.field-0) c.base.ensures.same c.def.ensures.same c.in-Unit.is) refl (c.in-Ok.ensures t stands)

pub returns-in-Ok-layer-clause-ok : goal.returns-in-Ok-layer-clause-ok
returns-in-Ok-layer-clause-ok c = λ t stands.
    let rows : List Row = c.args.acc.now in
    let schema : IsSchema rows = record { table = c.recall.ensures.table; accepted = c.recall.ensures.accepted } in
    layered_leaf rows schema c.args.slot t (D.Enum c.in-Enum.field-0) (L.enum c.in-Ok-layer.number) (V.enum c.in-Ok-layer.number) (form_is rows c.args.slot c.base.result.0 c.def.result.now (D.Enum c.in-Enum.field-0) c.base.ensures.same c.def.ensures.same c.in-Enum.is) refl (c.in-Ok-layer.ensures.answer t stands)

pub returns-in_ok-piece_tree-in-Any-clause-ok : goal.returns-in_ok-piece_tree-in-Any-clause-ok
returns-in_ok-piece_tree-in-Any-clause-ok c = λ t stands.
    let rows : List Row = c.args.acc.now in
    let schema : IsSchema rows = record { table = c.recall.ensures.table; accepted = c.recall.ensures.accepted } in
    any_leaf rows schema c.args.slot t (data_of c.in_ok-piece_tree-in-Any.field-0) (form_is rows c.args.slot c.base.result.0 c.def.result.now D.Any c.base.ensures.same c.def.ensures.same c.in-Any.is) (c.in_ok-piece_tree-in-Any.ensures t stands)

pub unreachable-requires : goal.unreachable-requires
unreachable-requires c =
    ∥∥₁_elim (c.requires.layered D.Bool (form_is c.args.acc.now c.args.slot c.base.result.0 c.def.result.now D.Bool c.base.ensures.same c.def.ensures.same c.in-Bool.is)) (hlevel props)
    (λ x. shows_one T.boolean boolean_of (as_boolean x.layer) x.tree (λ k. refl) x.made (sym c.in-None.is ∙ c.boolean.ensures c.args.acc.now x.tree x.stands))

pub unreachable-requires-in-None-int : goal.unreachable-requires-in-None-int
unreachable-requires-in-None-int c =
    ∥∥₁_elim (c.requires.layered D.Int (form_is c.args.acc.now c.args.slot c.base.result.0 c.def.result.now D.Int c.base.ensures.same c.def.ensures.same c.in-Int.is)) (hlevel props)
    (λ x. shows_one T.integer int_of (as_integer x.layer) x.tree (λ k. refl) x.made (sym c.in-None-int.is ∙ c.int.ensures c.args.acc.now x.tree x.stands))

pub unreachable-requires-in-None-text : goal.unreachable-requires-in-None-text
unreachable-requires-in-None-text c =
    ∥∥₁_elim (c.requires.layered D.Text (form_is c.args.acc.now c.args.slot c.base.result.0 c.def.result.now D.Text c.base.ensures.same c.def.ensures.same c.in-Text.is)) (hlevel props)
    (λ x. shows_one T.text text_in (as_text x.layer) x.tree (λ k. refl) x.made (none_mapped (λ s. s.now) c.text.result _ c.in-None-text.is (c.text.ensures c.args.acc.now x.tree x.stands)))

pub unreachable-requires-in-None-bytes : goal.unreachable-requires-in-None-bytes
unreachable-requires-in-None-bytes c =
    ∥∥₁_elim (c.requires.layered D.Bytes (form_is c.args.acc.now c.args.slot c.base.result.0 c.def.result.now D.Bytes c.base.ensures.same c.def.ensures.same c.in-Bytes.is)) (hlevel props)
    (λ x. shows_one T.bytes bytes_in (as_bytes x.layer) x.tree (λ k. refl) x.made (none_mapped (λ s. s.now) c.bytes.result _ c.in-None-bytes.is (c.bytes.ensures c.args.acc.now x.tree x.stands)))

pub unreachable-requires-in-None-link : goal.unreachable-requires-in-None-link
unreachable-requires-in-None-link c =
    ∥∥₁_elim (c.requires.layered (D.Link c.in-Link.field-0) (form_is c.args.acc.now c.args.slot c.base.result.0 c.def.result.now (D.Link c.in-Link.field-0) c.base.ensures.same c.def.ensures.same c.in-Link.is)) (hlevel props)
    (λ x. shows_one T.link link_of (as_link x.layer) x.tree (λ k. refl) x.made (none_mapped cid_bytes c.link.result _ c.in-None-link.is (c.link.ensures c.args.acc.now x.tree x.stands)))

pub unreachable-requires-in-Err : goal.unreachable-requires-in-Err
unreachable-requires-in-Err c =
    let is = form_is c.args.acc.now c.args.slot c.base.result.0 c.def.result.now (D.Unit c.in-Unit.field-0) c.base.ensures.same c.def.ensures.same c.in-Unit.is in
    ∥∥₁_elim (c.requires.layered (D.Unit c.in-Unit.field-0) is) (hlevel props) (λ x. never_refused c.args.acc.now c.recall.ensures.legible c.args.slot.ty.0 (D.Unit c.in-Unit.field-0) c.args.piece.now is x c.in-Err.field-0 (c.in-Err.ensures x.tree x.stands))

pub unreachable-requires-in-Err-layer : goal.unreachable-requires-in-Err-layer
unreachable-requires-in-Err-layer c =
    let is = form_is c.args.acc.now c.args.slot c.base.result.0 c.def.result.now (D.Enum c.in-Enum.field-0) c.base.ensures.same c.def.ensures.same c.in-Enum.is in
    ∥∥₁_elim (c.requires.layered (D.Enum c.in-Enum.field-0) is) (hlevel props) (λ x. never_refused c.args.acc.now c.recall.ensures.legible c.args.slot.ty.0 (D.Enum c.in-Enum.field-0) c.args.piece.now is x c.in-Err-layer.field-0 (c.in-Err-layer.ensures.answer x.tree x.stands))

pub unreachable-requires-in_default : goal.unreachable-requires-in_default
unreachable-requires-in_default c =
    let d = c.def.result.now in
    no_leaf d (leaf_slot _ d (form_is c.args.acc.now c.args.slot c.base.result.0 d d c.base.ensures.same c.def.ensures.same refl) c.requires.plain) c.in_default.not-Bool c.in_default.not-Int c.in_default.not-Text c.in_default.not-Bytes
    (λ target e. c.in_default.not-Link target e) c.in_default.not-Any (λ f e. c.in_default.not-Unit f e) (λ m e. c.in_default.not-Enum m e)
