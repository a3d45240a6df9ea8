-- Where in a node, a bucket and a root map their parts begin, in bytes from their own first.
use Rattle.std.specs.Prelude.{ℕ, ◌+◌, List, length, take}
use Rattle.std.specs.List.{flat_map}
use Rattle.ild_data.specs.Data.{Data, list, items_of}
use Rattle.ild_data.specs.Trie.{TrieSlot, elements_of, entry_data, node_data}
use Rattle.ild_cbor.specs.Span.{place_of}
use Rattle.ild_node_slots.specs.Form.{bucket_data}

-- the list of a node's elements
abbrev pub elements_data : List TrieSlot → Data
elements_data slots = list (items_of (flat_map elements_of slots))

-- how many elements stand before that of a slot
abbrev pub elements_before : List TrieSlot → ℕ → ℕ
elements_before slots i = length (flat_map elements_of (take i slots))

-- the element of a slot, in its node
abbrev pub slot_place : List TrieSlot → ℕ → ℕ
slot_place slots i = place_of (node_data slots) 1 + place_of (elements_data slots) (elements_before slots i)

-- the value of an entry, in its bucket
abbrev pub value_place : List (List ℕ × Data) → ℕ → List ℕ × Data → ℕ
value_place es i e = place_of (bucket_data es) i + place_of (entry_data e) 1
