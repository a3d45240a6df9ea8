use Rattle.std.proofs.Common.{List, subst}
use Rattle.ild_schema.specs.declared.row.Row.{Row}
use Rattle.ild_layer_parts.specs.declared.parts.Parts.TheVariants as P
use Rattle.ild_layer_parts.specs.PassedOver.{AreInside}
use Rattle.ild_layer_parts.specs.Parts.{HasLeft}
use Rattle.ild_layer_parts.specs.Ready.{AreReady}
use Rattle.ild_layer_parts.proofs.Passing.{passed_off, passes_none}
use Rattle.ild_layer_parts.proofs.Stepping.{left_as}
use Rattle.ild_layer_parts.proofs.behind.behind_leaves.Goals as goal

pub past_elements-requires : goal.past_elements-requires
past_elements-requires c = subst (AreReady c.args.acc.now) c.in-List.is c.requires

pub returns-in-List-clause-passes : goal.returns-in-List-clause-passes
returns-in-List-clause-passes c = λ ps h.
    let rows : List Row = c.args.acc.now in
    passed_off rows ps (P.List c.past_elements.result) (c.past_elements.ensures.passes ps (left_as rows c.args.parts (P.List c.in-List.elements) ps c.in-List.is h))

pub returns-in-Map-clause-passes : goal.returns-in-Map-clause-passes
returns-in-Map-clause-passes c = λ ps h.
    let rows : List Row = c.args.acc.now in
    passed_off rows ps (P.Map c.past_entries.result) (c.past_entries.ensures.passes ps (left_as rows c.args.parts (P.Map c.in-Map.entries) ps c.in-Map.is h))

pub returns-in-Struct-clause-passes : goal.returns-in-Struct-clause-passes
returns-in-Struct-clause-passes c = λ ps h.
    let rows : List Row = c.args.acc.now in
    passed_off rows ps (P.Struct c.past_fields.result) (c.past_fields.ensures.passes ps (left_as rows c.args.parts (P.Struct c.in-Struct.fields) ps c.in-Struct.is h))

pub returns-in_default-clause-passes : goal.returns-in_default-clause-passes
returns-in_default-clause-passes c = λ ps h.
    let rows : List Row = c.args.acc.now in
    passed_off rows ps c.args.parts (passes_none rows ps (HasLeft rows c.args.parts) h)

pub returns-in-Pairs-clause-passes : goal.returns-in-Pairs-clause-passes
returns-in-Pairs-clause-passes c = λ ps h.
    let rows : List Row = c.args.acc.now in
    passed_off rows ps (P.Pairs c.past_pairs.result) (c.past_pairs.ensures.passes ps (left_as rows c.args.parts (P.Pairs c.in-Pairs.pairs) ps c.in-Pairs.is h))

pub returns-in-List-clause-inside : goal.returns-in-List-clause-inside
returns-in-List-clause-inside c = λ ty y h. subst (AreInside c.args.acc.now ty y) c.in-List.is h

pub returns-in-Map-clause-inside : goal.returns-in-Map-clause-inside
returns-in-Map-clause-inside c = λ ty y h. subst (AreInside c.args.acc.now ty y) c.in-Map.is h

pub returns-in-Struct-clause-inside : goal.returns-in-Struct-clause-inside
returns-in-Struct-clause-inside c = λ ty y h. subst (AreInside c.args.acc.now ty y) c.in-Struct.is h

pub returns-in-Pairs-clause-inside : goal.returns-in-Pairs-clause-inside
returns-in-Pairs-clause-inside c = λ ty y h. subst (AreInside c.args.acc.now ty y) c.in-Pairs.is h
