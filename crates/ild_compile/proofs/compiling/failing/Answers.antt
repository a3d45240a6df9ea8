use Rattle.std.proofs.Common.{subst}
use Rattle.ild_accept.specs.Judged.{IsFaultOf}
use Rattle.ild_compile.proofs.Failing.{fails}
use Rattle.ild_compile.proofs.compiling.failing.Goals as goal

pub returns-in-Fault : goal.returns-in-Fault
returns-in-Fault c = λ src rows table is. rw c.fault.ensures (fails src rows c.in-Fault.rule c.in-Fault.ty c.in-Fault.at table (subst (IsFaultOf rows) c.in-Fault.is is))
