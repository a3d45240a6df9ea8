use Rattle.ild_accept.proofs.Telling.{cycle_fault}
use Rattle.ild_accept.proofs.accepting.judge.Goals as goal

pub returns-in-Some-clause-fault : goal.returns-in-Some-clause-fault
returns-in-Some-clause-fault c = cycle_fault c.args.schema.now c.in_ok-ty.field-0 c.in-Some.ty c.place.result c.in-Some.is c.in_ok-ty.ensures c.place.ensures
