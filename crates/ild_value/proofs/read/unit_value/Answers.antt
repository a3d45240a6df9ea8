use Rattle.std.proofs.Common.{arith}
use Rattle.ild_value.proofs.Shows.{unit_refused}
use Rattle.ild_value.proofs.read.unit_value.Goals as goal

pub returns-else-len-eq0-clause-err : goal.returns-else-len-eq0-clause-err
returns-else-len-eq0-clause-err c =
    let h = c.if-len-eq0.false in
    unit_refused c.args.acc.now c.args.slot c.args.entries.now c.len.result c.requires c.len.ensures.count (omega arith)
