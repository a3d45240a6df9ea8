use Rattle.ild_parse.proofs.Derived.{answer_derived, derived_answered, fault_wrong}
use Rattle.ild_parse.proofs.schema.parse.Goals as goal

pub returns-clause-derived : goal.returns-clause-derived
returns-clause-derived c = answer_derived c.args.src.now c.as_bytes.result.now c.args.tokens.now c.as_slice.result.now c.read_schema.result c.as_bytes.ensures.value c.as_slice.ensures c.read_schema.ensures

pub returns-clause-only : goal.returns-clause-only
returns-clause-only c = derived_answered c.args.src.now c.as_bytes.result.now c.args.tokens.now c.as_slice.result.now c.read_schema.result c.as_bytes.ensures.value c.as_slice.ensures c.read_schema.ensures

pub returns-clause-wrong : goal.returns-clause-wrong
returns-clause-wrong c = fault_wrong c.args.src.now c.as_bytes.result.now c.args.tokens.now c.as_slice.result.now c.read_schema.result c.as_bytes.ensures.value c.as_slice.ensures c.read_schema.ensures
