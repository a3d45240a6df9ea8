use Rattle.ild_cbor.proofs.Blocks.{one_tree_lem}
use Rattle.ild_cbor.proofs.laws.one_tree.Goals as goal

pub returns : goal.returns
returns c = λ n d e p q. one_tree_lem _ _ _ _ d e p q
