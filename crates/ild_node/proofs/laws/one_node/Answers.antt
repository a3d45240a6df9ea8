use Rattle.std.proofs.Common.{◌∙◌, sym}
use Rattle.ild_hamt_trie.proofs.Bits.{same_node}
use Rattle.ild_node_slots.proofs.Shapes.{whole_map}
use Rattle.ild_node.proofs.laws.one_node.Goals as goal

pub returns : goal.returns
returns c = λ p slots others a b same. same_node slots others (whole_map p.width _ p.wide a.many) (b.many ∙ sym a.many) same
