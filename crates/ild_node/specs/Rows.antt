-- Rows of keys and spelled values, from which buckets are made (IPLD HashMap, "Bucket").
use Rattle.std.specs.Prelude.{◌≡◌, ◌≤◌, ℕ, List, [], ◌∷◌, map}
use Rattle.std.specs.List.{AllByRecursion}
use Rattle.std.specs.declared.cmp.Ordering.TheVariants.{Less}
use Rattle.ild_data.specs.Data.{Data, depth}
use Rattle.ild_data.specs.Spell.{spell}
use Rattle.ild_data.specs.ByteOrder.{bytewise, IsInOrder}
use Rattle.ild_cbor.specs.Nodes.{HasData}
use Rattle.ild_cbor.specs.declared.node.Node.{Node}
use Rattle.ild_typed.specs.Nested.{TreeIn}
use Rattle.ild_node_slots.specs.Form.{AreTexts}
use Rattle.ild_node.specs.declared.row.Row.{Row}

abbrev pub row_seen : Row → List ℕ × Data
row_seen r = (r.key, r.value)

abbrev pub rows_seen : List Row → List (List ℕ × Data)
rows_seen rows = map row_seen rows

-- so deep may a value nest that a node's list, its list of elements, a bucket and an entry stand around
abbrev pub deepest_value : ℕ
deepest_value = 92

abbrev pub AreShallow : List (List ℕ × Data) → Type 0
AreShallow es = AllByRecursion (λ e. TreeIn deepest_value e.1) es

-- rows in the bytewise order of their keys, which are UTF-8, and whose values are trees that leave room for the node around them
abbrev pub AreRows : List (List ℕ × Data) → Type 0
AreRows es = IsInOrder es × AreTexts es × AreShallow es

-- the key is greater than the last one
abbrev pub IsAbove : List ℕ → List (List ℕ × Data) → Type 0
IsAbove k [] = Unit {0}
IsAbove k (e ∷ []) = bytewise e.0 k ≡ Less
IsAbove k (e ∷ f ∷ es) = IsAbove k (f ∷ es)

-- the item nests so deep at most
abbrev pub NestsIn : ℕ → Node → Type 0
NestsIn room n = (t : Data) → HasData n t → depth t ≤ room

abbrev pub spelled_entry : List ℕ × Data → List ℕ × List ℕ
spelled_entry e = (e.0, spell e.1)
