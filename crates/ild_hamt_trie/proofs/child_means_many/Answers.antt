use Rattle.ild_hamt_trie.proofs.Node.{many-children}
use Rattle.ild_hamt_trie.proofs.child_means_many.Goals as goal

pub returns : goal.returns
returns c = many-children
