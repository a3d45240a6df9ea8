use Rattle.std.proofs.Common.{sym, arith}
use Rattle.ild_schema.specs.Value.{optionals_list}
use Rattle.ild_schema.specs.ValueSeen.{value_of}
use Rattle.ild_build_leaf.proofs.Turns.{present_some, present_none}
use Rattle.ild_build_leaf.proofs.order.present.Goals as goal

pub loop-i-preserved-in_default : goal.loop-i-preserved-in_default
loop-i-preserved-in_default c = record {
  few = omega arith;
  so_far = omega (arith, present_none (optionals_list c.args.vals.now) c.loop-i.i (sym c.in_default.ensures));
}

pub loop-i-preserved : goal.loop-i-preserved
loop-i-preserved c = record {
  few = omega arith;
  so_far = omega (arith, present_some (optionals_list c.args.vals.now) c.loop-i.i (value_of c.in-Some.field-0.now) (sym c.in-Some.ensures));
}
