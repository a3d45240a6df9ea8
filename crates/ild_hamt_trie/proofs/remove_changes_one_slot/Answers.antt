use Rattle.ild_hamt_trie.proofs.Node.{remove-step}
use Rattle.ild_hamt_trie.proofs.remove_changes_one_slot.Goals as goal

pub returns : goal.returns
returns c = remove-step
