use Rattle.ild_accept.proofs.Verdicts.{one_fault, no_fault}
use Rattle.ild_accept.proofs.laws.one_verdict.Goals as goal

pub returns-clause-fault : goal.returns-clause-fault
returns-clause-fault c = one_fault

pub returns-clause-none : goal.returns-clause-none
returns-clause-none c = no_fault
