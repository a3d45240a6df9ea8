use Rattle.std.proofs.lemmas.Result.{err_from_is_err_and}
use Rattle.ild_resolve.specs.Events.{member_events}
use Rattle.ild_resolve.proofs.Counting.{each_step, each_stop}
use Rattle.ild_resolve.proofs.count.members.Goals as goal

pub returns-in_err-member : goal.returns-in_err-member
returns-in_err-member c =
    let p = err_from_is_err_and c.from_residual.result c.from_residual.ensures.1 in
    rw (p.1, p.2) (each_stop member_events c.args.types.now c.loop-i.types c.loop-i.i c.args.members.now c.index-members-i.result c.in_err-member.field-0.0 c.loop-i-test.true c.index-members-i.is c.loop-i.invariant c.in_err-member.ensures)

pub loop-i-preserved : goal.loop-i-preserved
loop-i-preserved c = each_step member_events c.args.types.now c.loop-i.types c.member.new.types c.loop-i.i c.args.members.now c.index-members-i.result c.loop-i-test.true c.index-members-i.is c.loop-i.invariant c.in_ok-member.ensures
