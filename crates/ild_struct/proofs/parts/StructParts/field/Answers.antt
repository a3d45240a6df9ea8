use Rattle.std.proofs.Common.{◌≡◌, List, get_or, ◌∙◌, ap}
use Rattle.ild_schema.specs.declared.def.Field.{Field}
use Rattle.ild_struct.proofs.Fielding.{map_field, tuple_field, listpairs_field, stringpairs_field, stringjoin_field}
use Rattle.ild_struct.proofs.parts.StructParts.field.Goals as goal

pub returns-in-Map-clause-part : goal.returns-in-Map-clause-part
returns-in-Map-clause-part c = λ rows ty t os h.
    let f = c.index-as_slice-i.result in
    let is : f ≡ get_or c.args.self.now.fields.def.now.fields c.args.i f = c.index-as_slice-i.is ∙ ap (λ (fs : List Field). get_or fs c.args.i f) c.as_slice.ensures in
    map_field rows ty t os c.args.self.now c.recall.ensures.legible c.args.i f c.requires is c.keyed.result h
    c.in-Map.piece c.text_of_field.result.now c.entry.result c.in-Map.is c.text_of_field.ensures c.entry.ensures (c.keyed.ensures.part rows)

pub returns-in-Tuple-clause-part : goal.returns-in-Tuple-clause-part
returns-in-Tuple-clause-part c = λ rows ty t os h.
    let f = c.index-as_slice-i.result in
    let is : f ≡ get_or c.args.self.now.fields.def.now.fields c.args.i f = c.index-as_slice-i.is ∙ ap (λ (fs : List Field). get_or fs c.args.i f) c.as_slice.ensures in
    tuple_field rows ty t os c.args.self.now c.recall.ensures.legible c.args.i f c.requires is c.placed.result h
    c.in-Tuple.node c.item.result c.recall.ensures.accepted c.in-Tuple.is c.item.ensures (c.placed.ensures.part rows f)

pub returns-in-ListPairs-clause-part : goal.returns-in-ListPairs-clause-part
returns-in-ListPairs-clause-part c = λ rows ty t os h.
    let f = c.index-as_slice-i.result in
    let is : f ≡ get_or c.args.self.now.fields.def.now.fields c.args.i f = c.index-as_slice-i.is ∙ ap (λ (fs : List Field). get_or fs c.args.i f) c.as_slice.ensures in
    listpairs_field rows ty t os c.args.self.now c.recall.ensures.legible c.args.i f c.requires is c.keyed-in-ListPairs.result h
    c.in-ListPairs.items c.text_of_field-in-ListPairs.result.now c.pair_value.result c.in-ListPairs.is c.text_of_field-in-ListPairs.ensures c.pair_value.ensures (c.keyed-in-ListPairs.ensures.part rows)

pub returns-in-StringPairs-clause-part : goal.returns-in-StringPairs-clause-part
returns-in-StringPairs-clause-part c = λ rows ty t os h.
    let f = c.index-as_slice-i.result in
    let is : f ≡ get_or c.args.self.now.fields.def.now.fields c.args.i f = c.index-as_slice-i.is ∙ ap (λ (fs : List Field). get_or fs c.args.i f) c.as_slice.ensures in
    stringpairs_field rows ty t os c.args.self.now c.recall.ensures.legible c.args.i f c.requires is c.keyed_text.result h
    c.in-StringPairs.split c.text_of_field-in-StringPairs.result.now c.text_value.result c.in-StringPairs.is c.text_of_field-in-StringPairs.ensures c.text_value.ensures (c.keyed_text.ensures.part rows)

pub returns-in-StringJoin-clause-part : goal.returns-in-StringJoin-clause-part
returns-in-StringJoin-clause-part c = λ rows ty t os h.
    let f = c.index-as_slice-i.result in
    let is : f ≡ get_or c.args.self.now.fields.def.now.fields c.args.i f = c.index-as_slice-i.is ∙ ap (λ (fs : List Field). get_or fs c.args.i f) c.as_slice.ensures in
    stringjoin_field rows ty t os c.args.self.now c.recall.ensures.legible c.args.i f c.requires is c.placed_text.result h
    c.in-StringJoin.split c.get.result c.recall.ensures.accepted c.in-StringJoin.is c.get.ensures (c.placed_text.ensures.part rows f)
