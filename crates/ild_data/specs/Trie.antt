-- The HAMT node of entries (IPLD HashMap, "HashMapNode"): a partition of them by the index of their keys' hashes.
use Rattle.std.specs.Prelude.{ℕ, suc, zero, ◌+◌, ◌-◌, ◌*◌, ◌/◌, ◌^◌, ◌==◌, nat_le, Bool, true, false, cond, List, [], ◌∷◌, map, length, take, drop, Option, Some, None, option_map}
use Rattle.std.specs.List.{filter, flat_map, range_with_len}
use Rattle.ild_data.specs.ByteOrder.{in_byte_order, no_key_twice}
use Rattle.ild_data.specs.Data.{Data, bytes, list, link, items_of}
use Rattle.ild_data.specs.Spell.{spell, id_of, cid_of}
use Rattle.ild_data.specs.declared.hamt_shape.HamtShape.{HamtShape}
use Rattle.ild_data.specs.TrieShape.{trie_levels, index}

-- what stands at an index: nothing, a bucket, or the link to the block of this id
pub data TrieSlot : Type 0 where
  empty : TrieSlot
  bucket : List (List ℕ × Data) → TrieSlot
  child : List ℕ → TrieSlot

abbrev pub is_used : TrieSlot → Bool
is_used empty = false
is_used (bucket es) = true
is_used (child id) = true

abbrev pub is_child : TrieSlot → Bool
is_child empty = false
is_child (bucket es) = false
is_child (child id) = true

abbrev pub bucket_entries : TrieSlot → List (List ℕ × Data)
bucket_entries empty = []
bucket_entries (bucket es) = es
bucket_entries (child id) = []

-- ---- a node as data: the bitmap, and an element for each index that is used

-- the number of eight bits, the first the least significant
abbrev pub byte_of : List Bool → ℕ
byte_of [] = 0
byte_of (b ∷ bs) = cond b 1 0 + 2 * byte_of bs

abbrev pub map_of : List TrieSlot → List ℕ
map_of slots = map (λ j. byte_of (map is_used (take 8 (drop (8 * j) slots)))) (range_with_len 0 (length slots / 8))

abbrev pub entry_data : List ℕ × Data → Data
entry_data e = list (items_of (bytes e.0 ∷ e.1 ∷ []))

abbrev pub elements_of : TrieSlot → List Data
elements_of empty = []
elements_of (bucket es) = list (items_of (map entry_data es)) ∷ []
elements_of (child id) = link (cid_of id) ∷ []

abbrev pub node_data : List TrieSlot → Data
node_data slots = list (items_of (bytes (map_of slots) ∷ list (items_of (flat_map elements_of slots)) ∷ []))

-- ---- the slots of entries

-- each of them, where none is missing
abbrev pub all_some : {X : Type 0} → List (Option X) → Option (List X)
all_some [] = Some []
all_some (None ∷ os) = None
all_some (Some x ∷ os) = option_map (λ xs. x ∷ xs) (all_some os)

-- the entries whose key has the index
abbrev pub part : (List ℕ → ℕ) → List (List ℕ × Data) → ℕ → List (List ℕ × Data)
part at es i = filter (λ e. at e.0 == i) es

abbrev pub link_to : Data → TrieSlot
link_to node = child (id_of (spell node))

-- the slot of entries: below gives the node of the entries one level deeper, and is asked only where they are many
abbrev pub bucket_or : Bool → (List (List ℕ × Data) → Option Data) → List (List ℕ × Data) → Option TrieSlot
bucket_or true below es = Some (bucket es)
bucket_or false below es = option_map link_to (below es)

abbrev pub slot_of : ℕ → (List (List ℕ × Data) → Option Data) → List (List ℕ × Data) → Option TrieSlot
slot_of most below [] = Some empty
slot_of most below (e ∷ es) = bucket_or (nat_le (length (e ∷ es)) most) below (e ∷ es)

-- the slots of a node, where each has one
abbrev pub slots_of : HamtShape → (List ℕ → ℕ) → (List (List ℕ × Data) → Option Data) → List (List ℕ × Data) → Option (List TrieSlot)
slots_of p at below es = all_some (map (λ i. slot_of p.bucket below (part at es i)) (range_with_len 0 (2 ^ p.width)))

-- ---- the node of entries in bytewise order at a depth, where so many levels are left

unfoldable pub node_of : (List ℕ → List ℕ) → HamtShape → ℕ → ℕ → List (List ℕ × Data) → Option Data
node_of h p zero depth es = None
node_of h p (suc left) depth es = option_map node_data (slots_of p (λ k. index p (h k) depth) (node_of h p left (depth + 1)) es)

-- the index of a key at a depth
abbrev pub at_depth : (List ℕ → List ℕ) → HamtShape → ℕ → List ℕ → ℕ
at_depth h p depth k = index p (h k) depth

-- the slots of that node, where so many levels are left below it
abbrev pub slots_at : (List ℕ → List ℕ) → HamtShape → ℕ → ℕ → List (List ℕ × Data) → Option (List TrieSlot)
slots_at h p left depth es = slots_of p (at_depth h p depth) (node_of h p left (depth + 1)) es

-- the trie of entries in any order; of a list in which a key stands twice there is none
unfoldable pub trie : (List ℕ → List ℕ) → HamtShape → List (List ℕ × Data) → ℕ → Option Data
trie h p es depth = cond (no_key_twice es) (node_of h p (trie_levels p - depth) depth (in_byte_order es)) None
