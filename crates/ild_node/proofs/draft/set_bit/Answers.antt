use Rattle.std.proofs.Common.{refl, arith}
use Rattle.ild_node.proofs.Bits.{map-set}
use Rattle.ild_node.proofs.draft.set_bit.Goals as goal

pub returns : goal.returns
returns c = λ bits long is. map-set bits c.args.i _ _ c.args.map.now _ long (omega (arith, c.ranges.i)) is refl refl refl
