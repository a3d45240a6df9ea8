use Rattle.std.proofs.Common.{◌<◌, ◌≡◌, ◌≤◌, ℕ, List, length, set, Some}
use Rattle.ild_data.specs.Data.{Data}
use Rattle.ild_data.specs.ByteOrder.{IsInOrder}
use Rattle.ild_data.specs.Trie.{TrieSlot, at_depth, slots_at}
use Rattle.ild_node.specs.NewSlots.{slot_seen}
use Rattle.ild_node_slots.specs.Steps.{IsAtSlot}
use Rattle.ild_node_slots.specs.Views.{HasSlots}
use Rattle.ild_hamt_climb.specs.inside.Gathering.{held_to}
use Rattle.ild_hamt_climb.proofs.lifting.gathered.Given as goal

abbrev pub invariant-loop-j : goal.invariant-loop-j
invariant-loop-j l =
    ((ss : List TrieSlot) → HasSlots l.shape l.fn.view ss → IsAtSlot l.fn.view ss l.j l.slots) ×
    ((h : List ℕ → List ℕ) (left depth : ℕ) (ss : List TrieSlot) (gs : List (List ℕ × Data)) → HasSlots l.shape l.fn.view ss → l.i < length ss → IsInOrder gs
    → slots_at h l.shape left depth gs ≡ Some (set ss l.i (slot_seen l.fn.slot)) → length gs ≤ l.shape.bucket → l.rows ≡ held_to (at_depth h l.shape depth) l.i l.j gs)
