use Rattle.std.proofs.Common.{◌≡◌, List, map, set, take}
use Rattle.ild_data.specs.Trie.{TrieSlot, is_used}
use Rattle.ild_data.specs.declared.hamt_shape.HamtShape.{HamtShape}
use Rattle.ild_node_slots.specs.Views.{HasSlots}
use Rattle.ild_node.proofs.changed.used_after.Given as goal

abbrev pub invariant-loop-j : goal.invariant-loop-j
invariant-loop-j l = (p : HamtShape) (slots : List TrieSlot) (s : TrieSlot) → HasSlots p l.view slots → l.on ≡ is_used s → l.used.items ≡ take l.j (map is_used (set slots l.i s))
