use Rattle.std.proofs.Common.{◌-◌}
use Rattle.ild_data.specs.TrieShape.{trie_levels}
use Rattle.ild_hamt.proofs.ending.+agrees.Given as goal

abbrev pub decreases-agrees : goal.decreases-agrees
decreases-agrees l = trie_levels l.shape - l.depth
