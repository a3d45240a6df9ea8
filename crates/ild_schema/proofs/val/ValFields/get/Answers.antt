use Rattle.std.proofs.Common.{arith}
use Rattle.ild_data.proofs.Lists.{seen_at, seen_past}
use Rattle.ild_schema.proofs.Parts.{optionals_list-optionals_of}
use Rattle.ild_schema.specs.ValueSeen.{optional_of}
use Rattle.ild_schema.proofs.val.ValFields.get.Goals as goal

pub returns-then-i-len : goal.returns-then-i-len
returns-then-i-len c =
    let ps = c.self.inside.fields in
    rw (← c.self.view_is, optionals_list-optionals_of) (seen_at optional_of ps.items c.args.i c.index.result.now (omega arith) c.index.ensures)

pub returns-else-i-len : goal.returns-else-i-len
returns-else-i-len c =
    let ps = c.self.inside.fields in
    rw (← c.self.view_is, optionals_list-optionals_of) (seen_past optional_of ps.items c.args.i (omega arith))
