-- The entries in the block of a HAMT's root that are left.
use Rattle.std.specs.Prelude.{◌≡◌, ℕ, ◌+◌, ◌*◌, ◌-◌, ◌≤◌, List, [], ◌∷◌, ◌++◌, length, drop, Option, Some, None}
use Rattle.std.specs.Borrow.{Bor}
use Rattle.ild_data.specs.Data.{Data}
use Rattle.ild_data.specs.Trie.{TrieSlot}
use Rattle.ild_data.specs.declared.hamt_shape.HamtShape.{HamtShape}
use Rattle.ild_cbor.specs.declared.node.Node.{Node}
use Rattle.ild_cbor.specs.Nodes.{HasData}
use Rattle.ild_node_slots.specs.Steps.{IsAtSlot}
use Rattle.ild_node_slots.specs.Views.{HasEntries, HasSlots}
use Rattle.ild_node_slots.specs.declared.bucket.Bucket.{Bucket}
use Rattle.ild_node_slots.specs.declared.view.NodeView.{NodeView}
use Rattle.ild_schema.specs.declared.row.Row.{Row}
use Rattle.ild_typed.specs.RootSpots.{bucket_spots, in_node, root_spots}
use Rattle.ild_typed.specs.Spots.{Spot, value_spot}
use Rattle.ild_layer_parts.specs.declared.part.Part.{Part}
use Rattle.ild_layer_parts.specs.declared.root.RootEntries.{RootEntries}
use Rattle.ild_layer_parts.specs.Part.{IsFirst}
use Rattle.ild_layer_parts.specs.Entries.{held_count}

abbrev pub bucket_left : Option Bucket → ℕ → ℕ
bucket_left None entry = 0
bucket_left (Some b) entry = 1 + 2 * (16 - entry)

-- an entry counts two, the end of a bucket one, and a slot more than the 16 entries that a bucket has at most
abbrev pub root_left : RootEntries → ℕ
root_left s = 64 * (s.slots.count - s.slots.next) + bucket_left s.bucket s.entry + held_count s.held

-- the value whose key was handed out goes first
abbrev pub IsRootHeld : RootEntries → Option (Bor (List ℕ) × Node) → List Spot → List Spot → Type 0
IsRootHeld s None rest ps = ps ≡ rest
IsRootHeld s (Some x) rest ps = (d : Data) × (i : ℕ) × (s.entry ≡ i + 1) × HasData x.1 d × (ps ≡ value_spot s.value d (in_node s.element i 1) ∷ rest)

-- then the bucket, and the slots behind it
abbrev pub IsBucketLeft : RootEntries → Option Bucket → List TrieSlot → List Spot → Type 0
IsBucketLeft s None slots ps = ps ≡ root_spots s.key s.value s.element slots
IsBucketLeft s (Some b) slots ps =
    (es : List (List ℕ × Data)) × HasEntries b es × (length es ≤ 16) × (ps ≡ bucket_spots s.key s.value s.element s.entry (drop s.entry es) ++ root_spots s.key s.value (s.element + 1) slots)

pub record HasRoot (s : RootEntries) (ps : List Spot) : Type 0 where
  pub shape : HamtShape
  pub view : NodeView
  pub slots : List TrieSlot
  pub has : HasSlots shape view slots
  pub at : ℕ
  pub left : IsAtSlot view slots at s.slots
  pub within : at ≤ length slots
  pub few : s.element + held_count s.bucket ≤ at
  pub rest : List Spot
  pub held : IsRootHeld s s.held rest ps
  pub bucket : IsBucketLeft s s.bucket (drop at slots) rest

pub record SplitsRootOff (rows : List Row) (ps : List Spot) (o : Option Part) (rest : RootEntries) : Type 0 where
  pub taken : List Spot
  pub others : List Spot
  pub is : ps ≡ taken ++ others
  pub first : IsFirst rows o taken
  pub left : HasRoot rest others

abbrev pub SplitsRoot : List Row → List Spot → Option (Option Part × RootEntries) → Type 0
SplitsRoot rows ps None = ps ≡ []
SplitsRoot rows ps (Some r) = SplitsRootOff rows ps r.0 r.1
