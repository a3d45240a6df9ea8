use Rattle.std.proofs.Common.{◌≡◌, ◌<◌, ◌+◌, ◌-◌, List, true, is_some, option_map}
use Rattle.std.specs.Prelude.{All}
use Rattle.ild_data.specs.TrieShape.{trie_levels}
use Rattle.ild_data.specs.Trie.{TrieSlot}
use Rattle.ild_node_slots.specs.Views.{HasSlots}
use Rattle.ild_hamt_climb.specs.NodeBytes.{IsNodeBytes}
use Rattle.ild_hamt.proofs.Going.{Going}
use Rattle.ild_hamt.proofs.descending.descend_in.Given as goal

abbrev pub invariant-loop-next : goal.invariant-loop-next
invariant-loop-next g l =
    All (IsNodeBytes l.shape) l.blocks.items ×
    (l.depth < trie_levels l.shape) ×
    (is_some l.next ≡ true → l.depth + 1 < trie_levels l.shape) ×
    ((slots : List TrieSlot) → HasSlots l.shape l.fn.root slots → Going l.shape l.hash slots (g.K.Store.moment l.initial.store) l.blocks.items l.depth (option_map (λ id. id.0) l.next) (g.K.Store.moment l.store))

abbrev pub decreases-loop-next : goal.decreases-loop-next
decreases-loop-next g l = trie_levels l.shape - l.depth
