use Rattle.ild_hamt_trie.proofs.Node.{fold-step}
use Rattle.ild_hamt_trie.proofs.node_tells_collapse.Goals as goal

pub returns : goal.returns
returns c = fold-step
