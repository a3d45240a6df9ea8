use Rattle.std.proofs.Common.{sym}
use Rattle.ild_data.proofs.Regroup.{bits_len}
use Rattle.ild_data.proofs.bits.Bits.len.Goals as goal

pub returns : goal.returns
returns c = sym (bits_len c.self.inside.count c.self.inside.number c.args.self.now c.self.view_is)
