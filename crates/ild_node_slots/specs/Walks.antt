-- What is known of a walk over slots, of a slot and of a bucket, whichever they are: each is that of a node.
use Rattle.std.specs.Prelude.{ℕ, List}
use Rattle.ild_data.specs.declared.hamt_shape.HamtShape.{HamtShape}
use Rattle.ild_data.specs.Data.{Data}
use Rattle.ild_data.specs.Trie.{TrieSlot}
use Rattle.ild_node_slots.specs.Steps.{IsAtSlot}
use Rattle.ild_node_slots.specs.Views.{HasSlots, HasEntries}
use Rattle.ild_node_slots.specs.declared.bucket.Bucket.{Bucket}
use Rattle.ild_node_slots.specs.declared.slots.Slots.{Slots}
use Rattle.ild_node_slots.specs.declared.view.NodeView.{NodeView}
use Rattle.ild_node_slots.specs.declared.view.NodeSlot.{NodeSlot}
use Rattle.ild_node_slots.specs.declared.view.NodeSlot.TheVariants as S

-- a walk over the slots of a node, before the slot of this number
pub record SomeWalk (j : ℕ) (walk : Slots) : Type 0 where
  pub view : NodeView
  pub slots : List TrieSlot
  pub shape : HamtShape
  pub has : HasSlots shape view slots
  pub at : IsAtSlot view slots j walk

-- a bucket of entries
pub record SomeEntries (b : Bucket) : Type 0 where
  pub es : List (List ℕ × Data)
  pub has : HasEntries b es

-- what a slot holds: a bucket is one of entries
abbrev pub SomeHold : NodeSlot → Type 0
SomeHold S.Empty = Unit {0}
SomeHold (S.Bucket b) = SomeEntries b
SomeHold (S.Child id) = Unit {0}
