-- What buckets, nodes and their slots stand for, as they were read.
use Rattle.std.specs.Prelude.{◌≡◌, ℕ, suc, List, take, drop, get_or, slice_get, Option, Some, None}
use Rattle.std.specs.Borrow.{Bor}
use Rattle.ild_data.specs.Data.{Data, items_of}
use Rattle.ild_data.specs.Spell.{spell_items}
use Rattle.ild_data.specs.declared.hamt_shape.HamtShape.{HamtShape}
use Rattle.std.specs.List.{flat_map}
use Rattle.ild_data.specs.Trie.{TrieSlot, empty, bucket, child, elements_of, node_data}
use Rattle.ild_cbor.specs.Nodes.{HasData, IsPart}
use Rattle.ild_cbor.specs.declared.node.Node.{Node}
use Rattle.ild_node_slots.specs.Form.{AreTexts, IsNode, bucket_data}
use Rattle.ild_node_slots.specs.Places.{slot_place, value_place}
use Rattle.ild_node_slots.specs.Slotted.{IsSlotted, SomeSlots}
use Rattle.ild_node_slots.specs.declared.bucket.Bucket.{Bucket}
use Rattle.ild_node_slots.specs.declared.view.NodeView.{NodeView}
use Rattle.ild_node_slots.specs.declared.view.NodeSlot.{NodeSlot}
use Rattle.ild_node_slots.specs.declared.view.NodeSlot.TheVariants as S

-- the item that a bucket is, and that of a node
abbrev pub bucket_node : Bucket → Node
bucket_node b = b.node

abbrev pub view_node : NodeView → Node
view_node v = v.node

-- the shape of the HAMT whose node it is
abbrev pub view_shape : NodeView → HamtShape
view_shape v = v.shape

-- the bucket has these entries
pub record HasEntries (b : Bucket) (es : List (List ℕ × Data)) : Type 0 where
  pub stands : HasData (bucket_node b) (bucket_data es)
  pub texts : AreTexts es

-- a key and a node for an entry at its place in the bucket, or neither
abbrev pub EntryIs : Bucket → List (List ℕ × Data) → ℕ → Option (List ℕ × Data) → Option (Bor (List ℕ) × Node) → Type 0
EntryIs b es i None None = Unit {0}
EntryIs b es i (Some e) (Some r) = (r.0.now ≡ e.0) × IsPart (bucket_node b) r.1 (value_place es i e) e.1
EntryIs b es i None (Some r) = ⊥
EntryIs b es i (Some e) None = ⊥

-- the node is the value of an entry with this key, at its place in the item of these entries
pub record IsValueIn (whole : Node) (es : List (List ℕ × Data)) (key : List ℕ) (d : Data) (n : Node) : Type 0 where
  pub at : ℕ
  pub entry : slice_get es at ≡ Some (key, d)
  pub part : IsPart whole n (value_place es at (key, d)) d

-- a node for the value at a key, or neither
abbrev pub ValueIn : Node → List (List ℕ × Data) → List ℕ → Option Data → Option Node → Type 0
ValueIn whole es key None None = Unit {0}
ValueIn whole es key (Some d) (Some n) = IsValueIn whole es key d n
ValueIn whole es key None (Some n) = ⊥
ValueIn whole es key (Some d) None = ⊥

-- the node has these slots, of a HAMT of this shape
abbrev pub HasSlots : HamtShape → NodeView → List TrieSlot → Type 0
HasSlots p v slots = IsSlotted p v.shape v.node v.data v.map.now v.elements slots

-- the node has slots, of a HAMT of its own shape
abbrev pub IsSomeNode : NodeView → Type 0
IsSomeNode v = SomeSlots v.shape v.node v.data v.map.now v.elements

-- the view is that of the node that an item is which stands for this
pub record IsViewOf (p : HamtShape) (v : NodeView) (t : Data) : Type 0 where
  pub slots : List TrieSlot
  pub is : t ≡ node_data slots
  pub has : HasSlots p v slots

-- the item is a node of this shape
pub record IsNodeItem (p : HamtShape) (n : Node) : Type 0 where
  pub slots : List TrieSlot
  pub stands : HasData n (node_data slots)
  pub form : IsNode p slots

-- the bucket of these entries that is the element of a slot, at its place in the node
pub record IsBucketAt (v : NodeView) (slots : List TrieSlot) (i : ℕ) (b : Bucket) (es : List (List ℕ × Data)) : Type 0 where
  pub entries : HasEntries b es
  pub part : IsPart (view_node v) (bucket_node b) (slot_place slots i) (bucket_data es)

-- what stands in a slot
abbrev pub SlotHolds : NodeView → List TrieSlot → ℕ → NodeSlot → TrieSlot → Type 0
SlotHolds v slots i S.Empty empty = Unit {0}
SlotHolds v slots i (S.Bucket b) (bucket es) = IsBucketAt v slots i b es
SlotHolds v slots i (S.Child id) (child c) = id.0 ≡ c
SlotHolds v slots i r s = ⊥

abbrev pub SlotIs : NodeView → List TrieSlot → ℕ → NodeSlot → Type 0
SlotIs v slots i r = SlotHolds v slots i r (get_or slots i empty)

-- what is made of an element: the child whose link it is, or the bucket that it is itself
abbrev pub ElementIs : NodeSlot → Node → Option (List ℕ) → Type 0
ElementIs (S.Child id) n (Some c) = id.0 ≡ c
ElementIs (S.Bucket b) n None = b.node ≡ n
ElementIs r n o = ⊥

-- the elements of slots as they are spelled, one behind the other
abbrev pub spelled_elements : List TrieSlot → List ℕ
spelled_elements slots = spell_items (items_of (flat_map elements_of slots))

-- the elements of the slots before one, and those of the slots behind it
abbrev pub AreBeside : List TrieSlot → ℕ → Bor (List ℕ) × Bor (List ℕ) → Type 0
AreBeside slots i r = (r.0.now ≡ spelled_elements (take i slots)) × (r.1.now ≡ spelled_elements (drop (suc i) slots))
