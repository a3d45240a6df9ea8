-- Going over the slots of a node.
use Rattle.std.specs.Prelude.{◌≡◌, ◌<◌, ◌≤◌, ℕ, ◌+◌, List, length, Option, Some, None}
use Rattle.std.specs.List.{flat_map}
use Rattle.ild_data.specs.Trie.{TrieSlot, elements_of, map_of}
use Rattle.ild_data.specs.declared.hamt_shape.HamtShape.{HamtShape}
use Rattle.ild_node_slots.specs.Items.{IsAtItem}
use Rattle.ild_node_slots.specs.Places.{elements_before}
use Rattle.ild_node_slots.specs.Views.{HasSlots, SlotIs}
use Rattle.ild_node_slots.specs.declared.slots.Slots.{Slots}
use Rattle.ild_node_slots.specs.declared.view.NodeView.{NodeView}
use Rattle.ild_node_slots.specs.declared.view.NodeSlot.{NodeSlot}

-- the iterator stands before the slot of this number
pub record IsAtSlot (v : NodeView) (slots : List TrieSlot) (i : ℕ) (s : Slots) : Type 0 where
  pub map : s.map.now ≡ map_of slots
  pub next : s.next ≡ i
  pub count : s.count ≡ length slots
  pub elements : IsAtItem v.data (flat_map elements_of slots) (elements_before slots i) s.elements

abbrev pub SlotStep : NodeView → List TrieSlot → ℕ → Option NodeSlot → Slots → Type 0
SlotStep v slots i None t = length slots ≤ i
SlotStep v slots i (Some r) t = (i < length slots) × SlotIs v slots i r × IsAtSlot v slots (i + 1) t

-- each step gives the next slot, also an empty one, up to the last
abbrev pub SlotsGive : Slots → Option NodeSlot → Slots → Type 0
SlotsGive s r t = (p : HamtShape) (v : NodeView) (slots : List TrieSlot) (i : ℕ) → HasSlots p v slots → IsAtSlot v slots i s → SlotStep v slots i r t
