use Rattle.std.proofs.Common.{◌≡◌, ◌<◌, length, ℕ, List, refl, sym, ◌∙◌, ap, subst}
use Rattle.ild_schema.specs.declared.def.TypeDef.{TypeDef}
use Rattle.ild_schema.specs.declared.def.TypeDef.TheVariants as D
use Rattle.ild_schema.specs.declared.def.MapForm.{MapForm}
use Rattle.ild_schema.specs.declared.def.MapForm.TheVariants as MF
use Rattle.ild_layer_piece.proofs.Stand.{piece_rises}
use Rattle.ild_view_walk.specs.inside.Opens.{OpensPiece}
use Rattle.ild_layer_fields.specs.Told.{scalar_kind}
use Rattle.ild_view_walk.proofs.Finding.{map_low, pairs_given}
use Rattle.ild_layer_parts.proofs.Scalars.{type_is}
use Rattle.ild_view_walk.proofs.Inside.{no_inline, opens_inside}
use Rattle.ild_view_walk.proofs.walk.open_piece.Goals as goal

pub returns-in-Bool-clause-opens : goal.returns-in-Bool-clause-opens
returns-in-Bool-clause-opens c = λ d t stands is.
    c.open_scalar.ensures.opens c.args.acc.now d t stands (ap scalar_kind (type_is c.args.acc.now c.args.slot.ty.0 c.base.result.0 c.def.result.now D.Bool d c.base.ensures.same c.def.ensures.same c.in-Bool.is is))

pub returns-in-Bool-clause-ready : goal.returns-in-Bool-clause-ready
returns-in-Bool-clause-ready c = c.open_scalar.ensures.ready c.args.acc.now

pub returns-in-Text-clause-opens : goal.returns-in-Text-clause-opens
returns-in-Text-clause-opens c = λ d t stands is.
    c.open_scalar-in-Text.ensures.opens c.args.acc.now d t stands (ap scalar_kind (type_is c.args.acc.now c.args.slot.ty.0 c.base.result.0 c.def.result.now D.Text d c.base.ensures.same c.def.ensures.same c.in-Text.is is))

pub returns-in-Text-clause-ready : goal.returns-in-Text-clause-ready
returns-in-Text-clause-ready c = c.open_scalar-in-Text.ensures.ready c.args.acc.now

pub returns-in-Bytes-clause-opens : goal.returns-in-Bytes-clause-opens
returns-in-Bytes-clause-opens c = λ d t stands is.
    c.open_scalar-in-Bytes.ensures.opens c.args.acc.now d t stands (ap scalar_kind (type_is c.args.acc.now c.args.slot.ty.0 c.base.result.0 c.def.result.now D.Bytes d c.base.ensures.same c.def.ensures.same c.in-Bytes.is is))

pub returns-in-Bytes-clause-ready : goal.returns-in-Bytes-clause-ready
returns-in-Bytes-clause-ready c = c.open_scalar-in-Bytes.ensures.ready c.args.acc.now

pub returns-in-Int-clause-opens : goal.returns-in-Int-clause-opens
returns-in-Int-clause-opens c = λ d t stands is.
    c.open_scalar-in-Int.ensures.opens c.args.acc.now d t stands (ap scalar_kind (type_is c.args.acc.now c.args.slot.ty.0 c.base.result.0 c.def.result.now D.Int d c.base.ensures.same c.def.ensures.same c.in-Int.is is))

pub returns-in-Int-clause-ready : goal.returns-in-Int-clause-ready
returns-in-Int-clause-ready c = c.open_scalar-in-Int.ensures.ready c.args.acc.now

pub returns-in-Link-clause-opens : goal.returns-in-Link-clause-opens
returns-in-Link-clause-opens c = λ d t stands is.
    c.open_scalar-in-Link.ensures.opens c.args.acc.now d t stands (ap scalar_kind (type_is c.args.acc.now c.args.slot.ty.0 c.base.result.0 c.def.result.now (D.Link c.in-Link.field-0) d c.base.ensures.same c.def.ensures.same c.in-Link.is is))

pub returns-in-Link-clause-ready : goal.returns-in-Link-clause-ready
returns-in-Link-clause-ready c = c.open_scalar-in-Link.ensures.ready c.args.acc.now

pub returns-in-List-clause-opens : goal.returns-in-List-clause-opens
returns-in-List-clause-opens c = λ d t stands is.
    let the : d ≡ D.List c.in-List.elem c.in-List.at =
    type_is c.args.acc.now c.args.slot.ty.0 c.base.result.0 c.def.result.now (D.List c.in-List.elem c.in-List.at) d c.base.ensures.same c.def.ensures.same c.in-List.is is in
    subst (λ (k : TypeDef). OpensPiece c.args.acc.now c.args.room k t c.open_list.result) (sym the) (c.open_list.ensures.opens c.args.acc.now c.in-List.at t stands)

pub returns-in-Map-form-clause-opens : goal.returns-in-Map-form-clause-opens
returns-in-Map-form-clause-opens c = λ d t stands is.
    let own : MapForm → TypeDef = λ f. D.Map c.in-Map.key c.in-Map.key_at c.in-Map.value c.in-Map.at f in
    let the : d ≡ own MF.Map =
    type_is c.args.acc.now c.args.slot.ty.0 c.base.result.0 c.def.result.now (own c.in-Map.form) d c.base.ensures.same c.def.ensures.same c.in-Map.is is ∙ ap own c.in-Map-form.is in
    subst (λ (k : TypeDef). OpensPiece c.args.acc.now c.args.room k t c.open_map.result) (sym the)
    (c.open_map.ensures.opens c.in-Map.key_at c.in-Map.at t stands (piece_rises c.args.acc.now c.args.piece.now t stands))

pub returns-in-Any-clause-ready : goal.returns-in-Any-clause-ready
returns-in-Any-clause-ready c = c.open_any.ensures.ready c.args.acc.now

pub returns-in-Hamt-clause-opens : goal.returns-in-Hamt-clause-opens
returns-in-Hamt-clause-opens c = λ d t stands is.
    let own : MapForm → TypeDef = λ f. D.Map c.in-Map.key c.in-Map.key_at c.in-Map.value c.in-Map.at f in
    let the : d ≡ own (MF.Hamt c.in-Hamt.shape) =
    type_is c.args.acc.now c.args.slot.ty.0 c.base.result.0 c.def.result.now (own c.in-Map.form) d c.base.ensures.same c.def.ensures.same c.in-Map.is is ∙ ap own c.in-Hamt.is in
    subst (λ (k : TypeDef). OpensPiece c.args.acc.now c.args.room k t c.open_hamt.result) (sym the) (c.open_hamt.ensures.opens c.args.acc.now c.in-Map.key_at c.in-Map.at t stands)

pub returns-in-Hamt-clause-ready : goal.returns-in-Hamt-clause-ready
returns-in-Hamt-clause-ready c =
    let low = map_low c.args.acc.now c.def.result.now c.in-Map.key c.in-Map.key_at c.in-Map.value c.in-Map.at c.in-Map.form c.in-Map.is c.def.ensures.within in
    c.open_hamt.ensures.ready c.args.acc.now low.0 low.1

pub open_stringpairs-requires : goal.open_stringpairs-requires
open_stringpairs-requires c =
    let own : MapForm → TypeDef = λ f. D.Map c.in-Map.key c.in-Map.key_at c.in-Map.value c.in-Map.at f in
    let given = pairs_given c.args.acc.now c.recall.ensures.legible c.args.slot.ty.0 c.base.result.0 c.def.result.now c.in-Map.key c.in-Map.key_at c.in-Map.value c.in-Map.at c.in-StringPairs.inner c.in-StringPairs.entry
    c.base.ensures.same c.def.ensures.same (c.in-Map.is ∙ ap own c.in-StringPairs.is) in
    record {
      inner_some = subst (λ (s : List ℕ). 0 < length s) (sym c.as_str.ensures.same) given.0;
      entry_some = subst (λ (s : List ℕ). 0 < length s) (sym c.as_str-in-StringPairs.ensures.same) given.1;
    }

pub returns-in-StringPairs-clause-opens : goal.returns-in-StringPairs-clause-opens
returns-in-StringPairs-clause-opens c = λ d t stands is.
    let own : MapForm → TypeDef = λ f. D.Map c.in-Map.key c.in-Map.key_at c.in-Map.value c.in-Map.at f in
    let cut : List ℕ → List ℕ → TypeDef = λ a b. D.Map c.in-Map.key c.in-Map.key_at c.in-Map.value c.in-Map.at (MF.StringPairs a b) in
    let the : d ≡ cut c.in-StringPairs.inner c.in-StringPairs.entry =
    type_is c.args.acc.now c.args.slot.ty.0 c.base.result.0 c.def.result.now (own c.in-Map.form) d c.base.ensures.same c.def.ensures.same c.in-Map.is is ∙ ap own c.in-StringPairs.is in
    let texts : cut c.in-StringPairs.inner c.in-StringPairs.entry ≡ cut c.as_str.result.now c.as_str-in-StringPairs.result.now =
    ap (λ a. cut a c.in-StringPairs.entry) (sym c.as_str.ensures.same) ∙ ap (cut c.as_str.result.now) (sym c.as_str-in-StringPairs.ensures.same) in
    subst (λ (k : TypeDef). OpensPiece c.args.acc.now c.args.room k t c.open_stringpairs.result) (sym (the ∙ texts)) (c.open_stringpairs.ensures.opens c.args.acc.now c.in-Map.key_at c.in-Map.at t stands)

pub returns-in-StringPairs-clause-ready : goal.returns-in-StringPairs-clause-ready
returns-in-StringPairs-clause-ready c =
    let low = map_low c.args.acc.now c.def.result.now c.in-Map.key c.in-Map.key_at c.in-Map.value c.in-Map.at c.in-Map.form c.in-Map.is c.def.ensures.within in
    c.open_stringpairs.ensures.ready c.args.acc.now low.0 low.1

pub returns-in-ListPairs-clause-opens : goal.returns-in-ListPairs-clause-opens
returns-in-ListPairs-clause-opens c = λ d t stands is.
    let own : MapForm → TypeDef = λ f. D.Map c.in-Map.key c.in-Map.key_at c.in-Map.value c.in-Map.at f in
    let the : d ≡ own MF.ListPairs =
    type_is c.args.acc.now c.args.slot.ty.0 c.base.result.0 c.def.result.now (own c.in-Map.form) d c.base.ensures.same c.def.ensures.same c.in-Map.is is ∙ ap own c.in-ListPairs.is in
    subst (λ (k : TypeDef). OpensPiece c.args.acc.now c.args.room k t c.open_listpairs.result) (sym the) (c.open_listpairs.ensures.opens c.args.acc.now c.in-Map.key_at c.in-Map.at t stands)

pub returns-in-ListPairs-clause-ready : goal.returns-in-ListPairs-clause-ready
returns-in-ListPairs-clause-ready c =
    let low = map_low c.args.acc.now c.def.result.now c.in-Map.key c.in-Map.key_at c.in-Map.value c.in-Map.at c.in-Map.form c.in-Map.is c.def.ensures.within in
    c.open_listpairs.ensures.ready c.args.acc.now low.0 low.1

pub returns-in-Bool-clause-inside : goal.returns-in-Bool-clause-inside
returns-in-Bool-clause-inside c =
    opens_inside c.args.acc.now c.args.slot.ty.0 c.args.piece.now
    (no_inline c.args.acc.now c.args.slot.ty.0 c.base.result.0 c.def.result.now _ c.base.ensures.same c.def.ensures.same c.in-Bool.is refl) c.open_scalar.result c.open_scalar.ensures.many

pub returns-in-Text-clause-inside : goal.returns-in-Text-clause-inside
returns-in-Text-clause-inside c =
    opens_inside c.args.acc.now c.args.slot.ty.0 c.args.piece.now
    (no_inline c.args.acc.now c.args.slot.ty.0 c.base.result.0 c.def.result.now _ c.base.ensures.same c.def.ensures.same c.in-Text.is refl) c.open_scalar-in-Text.result c.open_scalar-in-Text.ensures.many

pub returns-in-Bytes-clause-inside : goal.returns-in-Bytes-clause-inside
returns-in-Bytes-clause-inside c =
    opens_inside c.args.acc.now c.args.slot.ty.0 c.args.piece.now
    (no_inline c.args.acc.now c.args.slot.ty.0 c.base.result.0 c.def.result.now _ c.base.ensures.same c.def.ensures.same c.in-Bytes.is refl) c.open_scalar-in-Bytes.result c.open_scalar-in-Bytes.ensures.many

pub returns-in-Int-clause-inside : goal.returns-in-Int-clause-inside
returns-in-Int-clause-inside c =
    opens_inside c.args.acc.now c.args.slot.ty.0 c.args.piece.now
    (no_inline c.args.acc.now c.args.slot.ty.0 c.base.result.0 c.def.result.now _ c.base.ensures.same c.def.ensures.same c.in-Int.is refl) c.open_scalar-in-Int.result c.open_scalar-in-Int.ensures.many

pub returns-in-Link-clause-inside : goal.returns-in-Link-clause-inside
returns-in-Link-clause-inside c =
    opens_inside c.args.acc.now c.args.slot.ty.0 c.args.piece.now
    (no_inline c.args.acc.now c.args.slot.ty.0 c.base.result.0 c.def.result.now _ c.base.ensures.same c.def.ensures.same c.in-Link.is refl) c.open_scalar-in-Link.result c.open_scalar-in-Link.ensures.many

pub returns-in-Any-clause-inside : goal.returns-in-Any-clause-inside
returns-in-Any-clause-inside c =
    opens_inside c.args.acc.now c.args.slot.ty.0 c.args.piece.now
    (no_inline c.args.acc.now c.args.slot.ty.0 c.base.result.0 c.def.result.now _ c.base.ensures.same c.def.ensures.same c.in-Any.is refl) c.open_any.result c.open_any.ensures.many

pub returns-in-Unit-clause-inside : goal.returns-in-Unit-clause-inside
returns-in-Unit-clause-inside c =
    opens_inside c.args.acc.now c.args.slot.ty.0 c.args.piece.now
    (no_inline c.args.acc.now c.args.slot.ty.0 c.base.result.0 c.def.result.now _ c.base.ensures.same c.def.ensures.same c.in-Unit.is refl) c.open_unit.result c.open_unit.ensures.many

pub returns-in-List-clause-inside : goal.returns-in-List-clause-inside
returns-in-List-clause-inside c =
    opens_inside c.args.acc.now c.args.slot.ty.0 c.args.piece.now
    (no_inline c.args.acc.now c.args.slot.ty.0 c.base.result.0 c.def.result.now _ c.base.ensures.same c.def.ensures.same c.in-List.is refl) c.open_list.result c.open_list.ensures.many

pub returns-in-Map-form-clause-inside : goal.returns-in-Map-form-clause-inside
returns-in-Map-form-clause-inside c =
    opens_inside c.args.acc.now c.args.slot.ty.0 c.args.piece.now
    (no_inline c.args.acc.now c.args.slot.ty.0 c.base.result.0 c.def.result.now _ c.base.ensures.same c.def.ensures.same c.in-Map.is refl) c.open_map.result c.open_map.ensures.many

pub returns-in-Hamt-clause-inside : goal.returns-in-Hamt-clause-inside
returns-in-Hamt-clause-inside c =
    opens_inside c.args.acc.now c.args.slot.ty.0 c.args.piece.now
    (no_inline c.args.acc.now c.args.slot.ty.0 c.base.result.0 c.def.result.now _ c.base.ensures.same c.def.ensures.same c.in-Map.is refl) c.open_hamt.result c.open_hamt.ensures.many

pub returns-in-StringPairs-clause-inside : goal.returns-in-StringPairs-clause-inside
returns-in-StringPairs-clause-inside c =
    opens_inside c.args.acc.now c.args.slot.ty.0 c.args.piece.now
    (no_inline c.args.acc.now c.args.slot.ty.0 c.base.result.0 c.def.result.now _ c.base.ensures.same c.def.ensures.same c.in-Map.is refl) c.open_stringpairs.result c.open_stringpairs.ensures.many

pub returns-in-ListPairs-clause-inside : goal.returns-in-ListPairs-clause-inside
returns-in-ListPairs-clause-inside c =
    opens_inside c.args.acc.now c.args.slot.ty.0 c.args.piece.now
    (no_inline c.args.acc.now c.args.slot.ty.0 c.base.result.0 c.def.result.now _ c.base.ensures.same c.def.ensures.same c.in-Map.is refl) c.open_listpairs.result c.open_listpairs.ensures.many

pub returns-in-Struct-clause-inside : goal.returns-in-Struct-clause-inside
returns-in-Struct-clause-inside c =
    opens_inside c.args.acc.now c.args.slot.ty.0 c.args.piece.now
    (no_inline c.args.acc.now c.args.slot.ty.0 c.base.result.0 c.def.result.now _ c.base.ensures.same c.def.ensures.same c.in-Struct.is refl) c.open_struct.result c.open_struct.ensures.many

pub returns-in-Enum-clause-inside : goal.returns-in-Enum-clause-inside
returns-in-Enum-clause-inside c =
    opens_inside c.args.acc.now c.args.slot.ty.0 c.args.piece.now
    (no_inline c.args.acc.now c.args.slot.ty.0 c.base.result.0 c.def.result.now _ c.base.ensures.same c.def.ensures.same c.in-Enum.is refl) c.open_enum.result c.open_enum.ensures.many
