use Rattle.std.proofs.lemmas.Result.{err_from_is_err_and}
use Rattle.ild_resolve.specs.Events.{field_events}
use Rattle.ild_resolve.proofs.Counting.{each_step, each_stop}
use Rattle.ild_resolve.proofs.count.fields.Goals as goal

pub returns-in_err-field : goal.returns-in_err-field
returns-in_err-field c =
    let p = err_from_is_err_and c.from_residual.result c.from_residual.ensures.1 in
    rw (p.1, p.2) (each_stop field_events c.args.types.now c.loop-i.types c.loop-i.i c.args.fields.now c.index-fields-i.result c.in_err-field.field-0.0 c.loop-i-test.true c.index-fields-i.is c.loop-i.invariant c.in_err-field.ensures)

pub loop-i-preserved : goal.loop-i-preserved
loop-i-preserved c = each_step field_events c.args.types.now c.loop-i.types c.field.new.types c.loop-i.i c.args.fields.now c.index-fields-i.result c.loop-i-test.true c.index-fields-i.is c.loop-i.invariant c.in_ok-field.ensures
