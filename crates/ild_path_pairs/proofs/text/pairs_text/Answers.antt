use Rattle.std.proofs.Common.{Some, None, sym, ◌∙◌, ap, ◌≡◌, subst}
use Rattle.std.specs.Prelude.{Ok, option_and_then}
use Rattle.std.proofs.lemmas.Option.{same_Some}
use Rattle.ild_data.specs.Data as T
use Rattle.ild_path_holder.proofs.Written.{piece_stands}
use Rattle.ild_path_pairs.proofs.Answering.{has_piece, map_answers, map_given, no_field, no_text, struct_answers, struct_given, text_same}
use Rattle.ild_path_pairs.proofs.text.pairs_text.Goals as goal
use Rattle.ild_path_pairs.specs.Pairs.{borrowed_text}
use Rattle.ild_schema.specs.Legible.{IsLegible}
use Rattle.ild_schema.specs.Parts.{part_named}
use Rattle.ild_schema.specs.Slots.{form_of}
use Rattle.ild_schema.specs.Table.{def_at}
use Rattle.ild_view.specs.View.{slot_of, table_of}

pub returns-in_default : goal.returns-in_default
returns-in_default c = λ pairs f o j view holder made lets. has_piece c.args.view.now pairs c.in_default.ensures

pub returns-in_default-text : goal.returns-in_default-text
returns-in_default-text c = λ pairs f o j view holder made lets.
    let v = c.args.view.now in
    no_text view.tree j (same_Some view.tree (T.text j) (sym view.front.tree ∙ made)) (c.in_default-text.ensures (table_of v) view.tree (piece_stands v f view c.in-Some.piece c.in-Some.ensures))

pub in_map-requires : goal.in_map-requires
in_map-requires c =
    let known : form_of c.schema-acc.result.now c.slot.result ≡ Some c.def.result.now = ap (def_at c.schema-acc.result.now) (sym c.base-base.ensures.same) ∙ c.def.ensures.same in
    map_given c.schema-acc.result.now c.recall.ensures.legible c.slot.result c.in-Map.key c.in-Map.key_at c.in-Map.value c.in-Map.at c.in-Map.form c.def.result.now known c.in-Map.is

pub in_struct-requires-clause-given : goal.in_struct-requires-clause-given
in_struct-requires-clause-given c =
    let known : form_of c.schema-acc.result.now c.slot.result ≡ Some c.def.result.now = ap (def_at c.schema-acc.result.now) (sym c.base-base.ensures.same) ∙ c.def.ensures.same in
    struct_given c.schema-acc.result.now c.recall.ensures.legible c.slot.result c.in-Struct.def c.def.result.now known c.in-Struct.is

pub returns-in-Map : goal.returns-in-Map
returns-in-Map c = λ pairs f o j view holder made lets.
    let v = c.args.view.now in
    let known : form_of c.schema-acc.result.now c.slot.result ≡ Some c.def.result.now = ap (def_at c.schema-acc.result.now) (sym c.base-base.ensures.same) ∙ c.def.ensures.same in
    let known_here : form_of (table_of v) (slot_of v) ≡ Some c.def.result.now = (λ i. form_of (sym c.schema-acc.ensures i) (sym c.slot.ensures i)) ∙ known in
    let is = same_Some view.tree (T.text j) (sym view.front.tree ∙ made) in
    let text_is = text_same view.tree j c.in-Some-text.text.now is (c.in-Some-text.ensures (table_of v) view.tree (piece_stands v f view c.in-Some.piece c.in-Some.ensures)) in
    map_answers (table_of v) (slot_of v) f o (borrowed_text c.args.new) view.tree c.args.segment.now c.in_map.result view.front.tree holder lets c.def.result.now known_here pairs c.in-Map.key c.in-Map.key_at c.in-Map.value c.in-Map.at c.in-Map.form
    c.in-Some-text.text.now c.in-Map.is text_is c.in_map.ensures

pub returns-in-Some-part_named : goal.returns-in-Some-part_named
returns-in-Some-part_named c = λ pairs f o j view holder made lets.
    let v = c.args.view.now in
    let known : form_of c.schema-acc.result.now c.slot.result ≡ Some c.def.result.now = ap (def_at c.schema-acc.result.now) (sym c.base-base.ensures.same) ∙ c.def.ensures.same in
    let known_here : form_of (table_of v) (slot_of v) ≡ Some c.def.result.now = (λ i. form_of (sym c.schema-acc.ensures i) (sym c.slot.ensures i)) ∙ known in
    let is = same_Some view.tree (T.text j) (sym view.front.tree ∙ made) in
    let text_is = text_same view.tree j c.in-Some-text.text.now is (c.in-Some-text.ensures (table_of v) view.tree (piece_stands v f view c.in-Some.piece c.in-Some.ensures)) in
    let numbered = c.in-Some-part_named.ensures.same ∙ ap (option_and_then (part_named c.args.segment.now)) c.def.ensures.same in
    struct_answers (table_of v) (slot_of v) f o (borrowed_text c.args.new) view.tree c.args.segment.now c.in_struct.result view.front.tree holder lets c.def.result.now known_here pairs c.in-Struct.def c.in-Struct.is
    (subst IsLegible c.schema-acc.ensures c.recall.ensures.legible) c.in-Some-part_named.number c.in-Some-text.text.now numbered text_is c.in_struct.ensures

pub returns-in-None : goal.returns-in-None
returns-in-None c = λ pairs f o j view holder made lets.
    let v = c.args.view.now in
    let known : form_of c.schema-acc.result.now c.slot.result ≡ Some c.def.result.now = ap (def_at c.schema-acc.result.now) (sym c.base-base.ensures.same) ∙ c.def.ensures.same in
    let known_here : form_of (table_of v) (slot_of v) ≡ Some c.def.result.now = (λ i. form_of (sym c.schema-acc.ensures i) (sym c.slot.ensures i)) ∙ known in
    let numbered = c.in-None.ensures.same ∙ ap (option_and_then (part_named c.args.segment.now)) c.def.ensures.same in
    no_field (table_of v) (slot_of v) f o (borrowed_text c.args.new) view.tree c.args.segment.now (Ok None) view.front.tree holder lets c.def.result.now known_here pairs c.in-Struct.def c.in-Struct.is numbered
