use Rattle.std.proofs.Common.{◌≡◌, ◌<◌, ◌≤◌, List, length}
use Rattle.ild_data.specs.Trie.{TrieSlot}
use Rattle.ild_data.specs.declared.hamt_shape.HamtShape.{HamtShape}
use Rattle.ild_node_slots.specs.Places.{elements_before}
use Rattle.ild_node_slots.specs.Views.{HasSlots}
use Rattle.ild_hamt_climb.proofs.element.count_before.Given as goal

abbrev pub invariant-loop-j : goal.invariant-loop-j
invariant-loop-j l = (p : HamtShape) (slots : List TrieSlot) → HasSlots p l.view slots → l.i < length slots → (l.count ≡ elements_before slots l.j) × (l.count ≤ l.j) × (l.j ≤ l.i)
