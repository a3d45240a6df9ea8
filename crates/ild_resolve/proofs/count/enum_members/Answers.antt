use Rattle.std.proofs.Common.{◌≡◌, None, arith}
use Rattle.std.proofs.lemmas.Grind.{common_steps}
use Rattle.ild_resolve.specs.Events.{enum_member_events}
use Rattle.ild_resolve.specs.Faults.{first_above}
use Rattle.ild_resolve.proofs.Counting.{each_step, each_end}
use Rattle.ild_resolve.proofs.count.enum_members.Goals as goal

pub loop-i-preserved : goal.loop-i-preserved
loop-i-preserved c = λ types.
    let m = c.index-members-i.result in
    let free : first_above types (enum_member_events c.loop-i.i m) ≡ None = grind (arith, common_steps, c.in_ok-begin_part.ensures.room) in
    each_step enum_member_events types types types c.loop-i.i c.args.members.now m c.loop-i-test.true c.index-members-i.is (c.loop-i.invariant types) (free, omega arith)

pub returns : goal.returns
returns c = λ types. each_end enum_member_events types types c.loop-i.i c.args.members.now c.loop-i-test.false (c.loop-i.invariant types)
