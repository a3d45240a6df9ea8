use Rattle.std.proofs.Common.{rules}
use Rattle.ild_build.proofs.Low.{member_low}
use Rattle.ild_build.proofs.parts.member_of.Goals as goal

pub returns-in-Some-clause-within : goal.returns-in-Some-clause-within
returns-in-Some-clause-within c = λ n within. member_low n c.in-Union.u c.args.number c.in-Some.member.now (search rules) (search rules)
