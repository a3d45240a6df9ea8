use Rattle.std.proofs.Common.{sym, arith}
use Rattle.ild_schema.specs.Value.{optionals_list}
use Rattle.ild_schema.specs.ValueSeen.{value_of}
use Rattle.ild_build.proofs.Turns.{got}
use Rattle.ild_build_leaf.proofs.Turns.{written_kept, written_passed}
use Rattle.ild_build_leaf.proofs.order.written.Goals as goal

pub loop-i-preserved-in_default : goal.loop-i-preserved-in_default
loop-i-preserved-in_default c =
    let fs = c.args.fields.now in
    let os = optionals_list c.args.vals.now in
    let at = got c.as_slice-field-items.result.now fs c.loop-i.i c.field-item.result c.as_slice-field-items.ensures (omega arith) c.field-item.is in
    record {
      few = omega arith;
      so_far = omega (arith, written_passed fs os c.loop-i.i c.field-item.result at (sym c.in_default.ensures));
    }

pub loop-i-preserved : goal.loop-i-preserved
loop-i-preserved c =
    let fs = c.args.fields.now in
    let os = optionals_list c.args.vals.now in
    let at = got c.as_slice-field-items.result.now fs c.loop-i.i c.field-item.result c.as_slice-field-items.ensures (omega arith) c.field-item.is in
    record {
      few = omega arith;
      so_far = omega (arith, written_kept fs os c.loop-i.i c.field-item.result (value_of c.in-Some.field-0.now) at (sym c.in-Some.ensures));
    }
