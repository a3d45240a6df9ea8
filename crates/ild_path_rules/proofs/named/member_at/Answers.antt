use Rattle.ild_path_rules.proofs.Naming.{at_place, past_all}
use Rattle.ild_path_rules.proofs.named.member_at.Goals as goal

pub returns-in-Some : goal.returns-in-Some
returns-in-Some c = let found = c.in-Some.ensures.lookup in at_place c.args.members.now c.args.number c.in-Some.member.now found.3.0 found.1

pub returns-in-None : goal.returns-in-None
returns-in-None c = past_all c.args.members.now c.args.number c.in-None.ensures.lookup.3
