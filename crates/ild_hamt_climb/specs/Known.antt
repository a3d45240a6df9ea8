-- What is known of a bucket that was read, whichever it is: its values leave room for the node around them.
use Rattle.std.specs.Prelude.{ℕ, List}
use Rattle.ild_data.specs.Data.{Data}
use Rattle.ild_node.specs.Rows.{AreShallow}
use Rattle.ild_node_slots.specs.Views.{HasEntries}
use Rattle.ild_node_slots.specs.declared.bucket.Bucket.{Bucket}
use Rattle.ild_node_slots.specs.declared.view.NodeSlot.{NodeSlot}
use Rattle.ild_node_slots.specs.declared.view.NodeSlot.TheVariants as S

-- a bucket whose values leave room
pub record SomeBucket (b : Bucket) : Type 0 where
  pub es : List (List ℕ × Data)
  pub has : HasEntries b es
  pub low : AreShallow es

abbrev pub SomeSlot : NodeSlot → Type 0
SomeSlot S.Empty = Unit {0}
SomeSlot (S.Bucket b) = SomeBucket b
SomeSlot (S.Child id) = Unit {0}
