use Rattle.std.proofs.Common.{arith}
use Rattle.ild_data.proofs.Lists.{seen_at, seen_past}
use Rattle.ild_schema.proofs.Parts.{values_list-values_of}
use Rattle.ild_schema.specs.ValueSeen.{value_of}
use Rattle.ild_schema.proofs.val.Vals.get.Goals as goal

pub returns-then-i-len : goal.returns-then-i-len
returns-then-i-len c =
    let ps = c.self.inside.items in
    rw (← c.self.view_is, values_list-values_of) (seen_at value_of ps.items c.args.i c.index.result.now (omega arith) c.index.ensures)

pub returns-else-i-len : goal.returns-else-i-len
returns-else-i-len c =
    let ps = c.self.inside.items in
    rw (← c.self.view_is, values_list-values_of) (seen_past value_of ps.items c.args.i (omega arith))
