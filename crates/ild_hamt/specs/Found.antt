-- The item to which a hash leads in a node.
use Rattle.std.specs.Prelude.{◌≡◌, ℕ, List, Option, Some, length, slice_get}
use Rattle.std.specs.FinMap.{find}
use Rattle.std.specs.Option.{ForSome}
use Rattle.ild_cbor.specs.Nodes.{HasData}
use Rattle.ild_cbor.specs.declared.node.Node.{Node}
use Rattle.ild_data.specs.ByteOrder.{bytewise}
use Rattle.ild_data.specs.Data.{Data}
use Rattle.ild_data.specs.Trie.{TrieSlot, bucket, bucket_entries}
use Rattle.ild_data.specs.declared.hamt_shape.HamtShape.{HamtShape}
use Rattle.ild_hamt.specs.Descending.{trail_blocks, trail_shape}
use Rattle.ild_hamt.specs.Edits.{IsTrailAlong}
use Rattle.ild_hamt.specs.declared.trail.Trail.{Trail}
use Rattle.ild_hamt_climb.specs.Seen.{ValueIs}
use Rattle.ild_hamt_climb.specs.Way.{slot_for}
use Rattle.ild_node_slots.specs.declared.view.NodeView.{NodeView}

-- it is the value of an entry with this key in the bucket of a slot
pub record IsItemIn (s : TrieSlot) (key : List ℕ) (item : Node) : Type 0 where
  pub entries : List (List ℕ × Data)
  pub is : s ≡ bucket entries
  pub place : ℕ
  pub value : Data
  pub entry : slice_get entries place ≡ Some (key, value)
  pub stands : HasData item value

-- in a node of these slots at a depth
pub record FoundInNode (p : HamtShape) (hash : List ℕ) (depth : ℕ) (key : List ℕ) (slots : List TrieSlot) (result : Option Node) : Type 0 where
  pub value : ValueIs (find bytewise key (bucket_entries (slot_for p hash depth slots))) result
  pub there : ForSome result (λ item. IsItemIn (slot_for p hash depth slots) key item)

-- in the node in which the trail ends beneath this root, whatever trie the nodes on the way are of
abbrev pub FindsAtEnd : Trail → NodeView → Option Node → Type 0
FindsAtEnd t root result =
    (h : List ℕ → List ℕ) (k : List ℕ) (slots last : List TrieSlot) → IsTrailAlong (trail_shape t) root t h k slots last
    → FoundInNode (trail_shape t) (h k) (length (trail_blocks t)) k last result
