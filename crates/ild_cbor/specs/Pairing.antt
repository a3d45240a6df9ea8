-- The two items of a list of two.
use Rattle.std.specs.Prelude.{◌≡◌, length, Option, Some, None}
use Rattle.ild_data.specs.Data.{Data, list, Items, items_list}
use Rattle.ild_cbor.specs.Nodes.{Finds}
use Rattle.ild_cbor.specs.Scalar.{count_of}
use Rattle.ild_cbor.specs.Span.{place_of, item_of}
use Rattle.ild_cbor.specs.declared.node.Node.{Node}

-- nodes for both items, or there is no list of two
abbrev pub FindsPair : Node → Data → Option (Node × Node) → Type 0
FindsPair n t None = (ds : Items) → t ≡ list ds → length (items_list ds) ≡ 2 → ⊥
FindsPair n t (Some y) = (count_of t ≡ Some 2) × Finds n (place_of t 0) (item_of t 0) (Some y.0) × Finds n (place_of t 1) (item_of t 1) (Some y.1)
