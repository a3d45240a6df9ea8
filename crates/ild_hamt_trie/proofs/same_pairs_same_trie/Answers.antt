use Rattle.ild_hamt_trie.proofs.Node.{trie-alike}
use Rattle.ild_hamt_trie.proofs.same_pairs_same_trie.Goals as goal

pub returns : goal.returns
returns c = trie-alike
