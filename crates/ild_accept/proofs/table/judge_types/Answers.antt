use Rattle.std.proofs.Common.{inr, refl}
use Rattle.ild_accept.proofs.Failings.{failing_next, failing_found}
use Rattle.ild_accept.proofs.table.judge_types.Goals as goal

pub returns-in-Some : goal.returns-in-Some
returns-in-Some c = inr (
  _,
  refl,
  failing_found c.args.schema.now c.loop-n.n c.place.result c.in-Some.at c.def.result.now c.in-Some.rule _ c.in_ok-rule.field-0 c.def.ensures.same c.place.ensures c.in_ok-rule.ensures c.in-Some.is c.loop-n.invariant,
)

pub loop-n-preserved : goal.loop-n-preserved
loop-n-preserved c = failing_next c.args.schema.now c.loop-n.n c.place.result c.def.result.now _ c.in_ok-rule.field-0 c.def.ensures.same c.place.ensures c.in_ok-rule.ensures c.in-None.is c.loop-n.invariant
