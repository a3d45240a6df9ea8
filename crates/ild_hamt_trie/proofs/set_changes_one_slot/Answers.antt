use Rattle.ild_hamt_trie.proofs.Node.{set-step}
use Rattle.ild_hamt_trie.proofs.set_changes_one_slot.Goals as goal

pub returns : goal.returns
returns c = set-step
