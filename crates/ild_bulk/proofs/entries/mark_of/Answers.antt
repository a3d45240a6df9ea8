use Rattle.std.proofs.Common.{arith}
use Rattle.ild_bulk.proofs.Marking.{marked-last}
use Rattle.ild_bulk.proofs.entries.mark_of.Goals as goal

pub returns : goal.returns
returns c = λ h e front is from hash. marked-last h e front c.args.out.now _ is from hash (omega arith)
