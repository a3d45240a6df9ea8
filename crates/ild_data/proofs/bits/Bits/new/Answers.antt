use Rattle.ild_data.proofs.Regroup.{no_bits}
use Rattle.ild_data.proofs.bits.Bits.new.Goals as goal

pub returns : goal.returns
returns c = no_bits 0
