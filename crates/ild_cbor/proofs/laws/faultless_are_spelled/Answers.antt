use Rattle.ild_cbor.proofs.Blocks.{block_taken, block_again}
use Rattle.ild_cbor.proofs.laws.faultless_are_spelled.Goals as goal

pub returns : goal.returns
returns c = λ b fits. (block_taken b fits, λ h. block_again b h.0 h.1)
