use Rattle.ild_hamt_trie.proofs.Node.{set-exhausts}
use Rattle.ild_hamt_trie.proofs.when_set_exhausts.Goals as goal

pub returns : goal.returns
returns c = set-exhausts
