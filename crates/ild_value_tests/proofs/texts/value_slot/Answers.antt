use Rattle.std.proofs.Common.{subst}
use Rattle.ild_schema.specs.Made.{MadeMap, MadeType}
use Rattle.ild_value_tests.proofs.texts.value_slot.Goals as goal

pub returns-in-StringPairs-clause-text : goal.returns-in-StringPairs-clause-text
returns-in-StringPairs-clause-text c =
    subst (λ f. MadeMap c.args.acc.now f c.in-Map.value) c.in-StringPairs.is
    (subst (MadeType c.args.acc.now) c.in-Map.is (c.recall.ensures.legible.made c.in_ok-map.map.ty.0 c.def.result.now c.def.ensures.same))
