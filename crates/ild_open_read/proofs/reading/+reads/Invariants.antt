use Rattle.std.proofs.Common.{List, ℕ, ◌≡◌, ◌+◌, ◌-◌, ◌*◌, ◌^◌, Option, Some, length}
use Rattle.std.specs.List.{AllByRecursion}
use Rattle.std.specs.Vec.Iter.{into_iter_items, into_iter_len}
use Rattle.ild_data.specs.Data as T
use Rattle.ild_data.specs.Data.{Data}
use Rattle.ild_view_entries.specs.Left.{AreLeft, most_left}
use Rattle.ild_open_held.specs.Splits.{HasFront, element_parts, entry_parts, field_parts}
use Rattle.ild_layer_piece.specs.Pieces.{StandsFor}
use Rattle.ild_schema.specs.declared.def.TypeDef.TheVariants as D
use Rattle.ild_typed.specs.Composed.{composed}
use Rattle.ild_typed.specs.Hamt.{alone}
use Rattle.ild_typed.specs.Layer as L
use Rattle.ild_open_read.proofs.Fielding.{Fielding}
use Rattle.ild_open_read.proofs.Listing.{Listing}
use Rattle.ild_open_read.proofs.Pairing.{Pairing}
use Rattle.ild_open_read.proofs.Rowing.{Rowing}
use Rattle.ild_open_read.specs.inside.Sound.{AreSound}
use Rattle.std.specs.Prelude.{slice_get}
use Rattle.ild_data.specs.Trie.{TrieSlot, bucket}
use Rattle.ild_data.specs.TrieShape.{trie_levels}
use Rattle.ild_data.specs.declared.hamt_shape.HamtShape.{HamtShape}
use Rattle.ild_node_slots.specs.Steps.{IsAtSlot}
use Rattle.ild_node_slots.specs.Views.{HasEntries, HasSlots}
use Rattle.ild_open_nodes.specs.Nodes.{SlotGiven, SlotOwned}
use Rattle.ild_open_nodes.proofs.Passing.{Passing}
use Rattle.ild_open_nodes.proofs.Slotting.{Given, Owned}
use Rattle.ild_open_read.proofs.reading.+reads.Given as goal

abbrev pub decreases-read_slot : goal.decreases-read_slot
decreases-read_slot g l = 2000 * l.room

abbrev pub decreases-read_list : goal.decreases-read_list
decreases-read_list g l = 2000 * l.room + 1

abbrev pub invariant-read_list-loop-item : goal.invariant-read_list-loop-item
invariant-read_list-loop-item g l =
    (goal.iterator-read_list-loop-item g).can_next l.left ×
    (goal.iterator-read_list-loop-item g).is_finite l.left ×
    ((ds : List Data) → StandsFor l.acc l.piece (T.list (T.items_of ds)) → AllByRecursion (HasFront l.acc l.room) (element_parts l.elem ds)
    → Listing g.H.KeyHash.hash_of l.at.0 l.acc l.room l.reader.keep l.elem ds l.left l.vals (g.K.Store.moment l.initial.store) (g.K.Store.moment l.store)) × AreSound g.H.KeyHash.hash_of l.acc (g.K.Store.moment l.store) l.known

abbrev pub decreases-read_field : goal.decreases-read_field
decreases-read_field g l = 2000 * l.room + 1

abbrev pub decreases-read_struct : goal.decreases-read_struct
decreases-read_struct g l = 2000 * l.room + 2

abbrev pub decreases-read_union : goal.decreases-read_union
decreases-read_union g l = 2000 * l.room + 1

abbrev pub invariant-read_struct-loop-i : goal.invariant-read_struct-loop-i
invariant-read_struct-loop-i g l =
    ((t : Data) (os : List (Option Data)) → StandsFor l.acc l.piece t → composed alone (D.Struct l.def) (L.struct os) ≡ Some t → AllByRecursion (HasFront l.acc l.room) (field_parts l.def.fields os)
    → Fielding g.H.KeyHash.hash_of l.at.0 l.acc l.room l.reader.keep l.def.fields os l.i l.fields (g.K.Store.moment l.initial.store) (g.K.Store.moment l.store)) × AreSound g.H.KeyHash.hash_of l.acc (g.K.Store.moment l.store) l.known

abbrev pub decreases-read_rows : goal.decreases-read_rows
decreases-read_rows g l = 2000 * l.room + 1

abbrev pub decreases-read_hamt : goal.decreases-read_hamt
decreases-read_hamt g l = 2000 * l.room + 1601

abbrev pub invariant-read_rows-loop-row : goal.invariant-read_rows-loop-row
invariant-read_rows-loop-row g l =
    (goal.iterator-read_rows-loop-row g).can_next l.row-iterator ×
    (goal.iterator-read_rows-loop-row g).is_finite l.row-iterator ×
    Rowing g.H.KeyHash.hash_of l.acc l.room l.reader.keep l.key l.value l.fn.rows.items (into_iter_items l.row-iterator) l.pairs (g.K.Store.moment l.initial.store) (g.K.Store.moment l.store) ×
    (into_iter_len l.row-iterator ≡ length (into_iter_items l.row-iterator)) × AreSound g.H.KeyHash.hash_of l.acc (g.K.Store.moment l.store) l.known

abbrev pub decreases-pass_rows : goal.decreases-pass_rows
decreases-pass_rows g l = 2000 * l.room + 1600

abbrev pub decreases-read_pairs : goal.decreases-read_pairs
decreases-read_pairs g l = 2000 * l.room + 1

abbrev pub invariant-read_pairs-loop-key : goal.invariant-read_pairs-loop-key
invariant-read_pairs-loop-key g l =
    ((es : List (List ℕ × Data)) → AreLeft l.entries es → AllByRecursion (HasFront l.acc l.room) (entry_parts l.value es)
    → Pairing g.H.KeyHash.hash_of l.at.0 l.acc l.room l.reader.keep l.value es l.left l.kept (g.K.Store.moment l.initial.store) (g.K.Store.moment l.store)) × AreSound g.H.KeyHash.hash_of l.acc (g.K.Store.moment l.store) l.known

abbrev pub decreases-read_pairs-loop-key : goal.decreases-read_pairs-loop-key
decreases-read_pairs-loop-key g l = most_left l.left

abbrev pub decreases-read_map : goal.decreases-read_map
decreases-read_map g l = 2000 * l.room + 1602

-- ---- nodes, with the levels that are left beneath each

abbrev pub decreases-nodes::pass_entry : goal.decreases-nodes::pass_entry
decreases-nodes::pass_entry g l = 2000 * l.read_as.room + 6 * (trie_levels l.read_as.shape - length l.way.now)

abbrev pub decreases-nodes::pass_bucket : goal.decreases-nodes::pass_bucket
decreases-nodes::pass_bucket g l = 2000 * l.read_as.room + 6 * (trie_levels l.read_as.shape - length l.way.now) + 1

abbrev pub decreases-nodes::pass_child : goal.decreases-nodes::pass_child
decreases-nodes::pass_child g l = 2000 * l.read_as.room + 6 * (trie_levels l.read_as.shape - length l.way.now) + 1

abbrev pub decreases-nodes::pass_at : goal.decreases-nodes::pass_at
decreases-nodes::pass_at g l = 2000 * l.read_as.room + 6 * (trie_levels l.read_as.shape - length l.way.now) + 2

abbrev pub decreases-nodes::pass_slots : goal.decreases-nodes::pass_slots
decreases-nodes::pass_slots g l = 2000 * l.read_as.room + 6 * (trie_levels l.read_as.shape - length l.way.now) + 3

abbrev pub decreases-nodes::pass_node : goal.decreases-nodes::pass_node
decreases-nodes::pass_node g l = 2000 * l.read_as.room + 6 * (trie_levels l.read_as.shape - length l.way.now) + 4

abbrev pub invariant-nodes::pass_bucket-loop-j : goal.invariant-nodes::pass_bucket-loop-j
invariant-nodes::pass_bucket-loop-j g l =
    ((slots : List TrieSlot) (es : List (List ℕ × Data)) → slice_get slots l.i ≡ Some (bucket es) → HasEntries l.entries es
    → Passing (Owned g.H.KeyHash.hash_of l.read_as.shape l.acc l.read_as.room l.read_as.key l.read_as.value l.way l.at.0 slots l.i es) (Given g.H.KeyHash.hash_of l.read_as.shape l.acc l.read_as.room l.read_as.key l.read_as.value l.way l.at.0 slots l.i es) es l.j
    (g.K.Store.moment l.initial.store) (g.K.Store.moment l.store)) × AreSound g.H.KeyHash.hash_of l.acc (g.K.Store.moment l.store) l.known

abbrev pub invariant-nodes::pass_slots-loop-i : goal.invariant-nodes::pass_slots-loop-i
invariant-nodes::pass_slots-loop-i g l =
    ((p : HamtShape) (slots : List TrieSlot) → HasSlots p l.fn.view slots → IsAtSlot l.fn.view slots l.i l.slots) ×
    ((slots : List TrieSlot) → HasSlots l.read_as.shape l.fn.view slots
    → Passing (λ held. SlotOwned g.H.KeyHash.hash_of l.read_as.shape l.acc l.read_as.room l.read_as.key l.read_as.value held l.way) (λ held. SlotGiven g.H.KeyHash.hash_of l.read_as.shape l.acc l.read_as.room l.read_as.key l.read_as.value held l.way) slots l.i
    (g.K.Store.moment l.initial.store) (g.K.Store.moment l.store)) × AreSound g.H.KeyHash.hash_of l.acc (g.K.Store.moment l.store) l.known
