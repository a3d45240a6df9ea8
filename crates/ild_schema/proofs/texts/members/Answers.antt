use Rattle.std.proofs.Common.{arith}
use Rattle.ild_schema.specs.inside.Written.{MemberTexts}
use Rattle.ild_schema.proofs.Writing.{one_more, all_of}
use Rattle.ild_schema.proofs.texts.members.Goals as goal

pub loop-part-preserved : goal.loop-part-preserved
loop-part-preserved c = one_more MemberTexts c.args.members.now c.loop-part.part-index c.part-item.result (omega (arith, c.loop-part-test.true)) c.part-item.is c.member.ensures c.loop-part.invariant

pub returns : goal.returns
returns c = all_of MemberTexts c.args.members.now c.loop-part.part-index (omega (arith, c.loop-part-test.false)) c.loop-part.invariant
