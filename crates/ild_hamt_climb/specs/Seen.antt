-- What a slot holds and what a search finds, without the places where it stands.
use Rattle.std.specs.Prelude.{◌≡◌, Option, Some, None}
use Rattle.ild_data.specs.Data.{Data}
use Rattle.ild_data.specs.Trie.{TrieSlot, empty, bucket, child}
use Rattle.ild_cbor.specs.Nodes.{HasData}
use Rattle.ild_cbor.specs.declared.node.Node.{Node}
use Rattle.ild_node_slots.specs.Views.{HasEntries}
use Rattle.ild_node_slots.specs.declared.view.NodeSlot.{NodeSlot}
use Rattle.ild_node_slots.specs.declared.view.NodeSlot.TheVariants as S

-- a node for data, or neither
abbrev pub ValueIs : Option Data → Option Node → Type 0
ValueIs None None = Unit {0}
ValueIs (Some d) (Some n) = HasData n d
ValueIs None (Some n) = ⊥
ValueIs (Some d) None = ⊥

-- what was read of a slot
abbrev pub IsReadOf : NodeSlot → TrieSlot → Type 0
IsReadOf S.Empty empty = Unit {0}
IsReadOf (S.Bucket b) (bucket es) = HasEntries b es
IsReadOf (S.Child id) (child c) = id.0 ≡ c
IsReadOf r s = ⊥
