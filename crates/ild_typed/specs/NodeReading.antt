-- The reading rules of the nodes of a HAMT, item by item (IPLD HashMap, "HashMapNode", "Bucket" and "HashMapRoot"): tests of data.
use Rattle.std.specs.Prelude.{ℕ, pos, codes, ◌/◌, ◌%◌, ◌^◌, ◌==◌, nat_lt, nat_le, List, [], ◌∷◌, length, map, drop, Bool, true, false, ◌&&◌, Option, Some, None, option_map, option_and_then, slice_index, if◌then◌else◌}
use Rattle.std.specs.Str.{is_utf8}
use Rattle.std.specs.List.{range_with_len}
use Rattle.std.specs.Ordering.{is_lt, eq_by_cmp}
use Rattle.ild_data.specs.Data.{Data, integer, bytes, list, map as map_data, link, Items, no_items, item, items_list, members_list}
use Rattle.ild_data.specs.Spell.{cid_of}
use Rattle.ild_data.specs.Key.{same_text}
use Rattle.ild_data.specs.declared.hamt_shape.HamtShape.{HamtShape}
use Rattle.ild_data.specs.ByteOrder.{bytewise}
use Rattle.ild_typed.specs.Fields.{same_int}

-- the items of a list of two
abbrev pub two_of : List Data → Option (Data × Data)
two_of [] = None
two_of (a ∷ []) = None
two_of (a ∷ b ∷ []) = Some (a, b)
two_of (a ∷ b ∷ c ∷ ds) = None

abbrev pub pair_in : Data → Option (Data × Data)
pair_in (list ds) = two_of (items_list ds)
pair_in t = None

abbrev pub text_in : List ℕ → Option (List ℕ)
text_in k = if is_utf8 k then Some k else None

abbrev pub key_in : Data → Option (List ℕ)
key_in (bytes k) = text_in k
key_in t = None

-- an entry: the bytes of a text, and a value
abbrev pub entry_of_pair : Data × Data → Option (List ℕ × Data)
entry_of_pair p = option_map (λ k. (k, p.1)) (key_in p.0)

abbrev pub entry_in : Data → Option (List ℕ × Data)
entry_in t = option_and_then entry_of_pair (pair_in t)

-- a key that stands above the one before it
abbrev pub rises : Option (List ℕ) → List ℕ → Bool
rises None k = true
rises (Some last) k = is_lt (bytewise last k)

-- the entry, where it stands above the key before it, and the rest behind its key
abbrev pub goes_on : Option (List ℕ) → Option (List ℕ × Data) → (Option (List ℕ) → Bool) → Bool
goes_on last None rest = false
goes_on last (Some e) rest = rises last e.0 && rest (Some e.0)

-- entries whose keys rise, behind a key
abbrev pub are_entries : Items → Option (List ℕ) → Bool
are_entries no_items last = true
are_entries (item d ds) last = goes_on last (entry_in d) (are_entries ds)

abbrev pub bucket_fits : ℕ → Data → Bool
bucket_fits most (list ds) = nat_lt 0 (length (items_list ds)) && nat_le (length (items_list ds)) most && are_entries ds None
bucket_fits most t = false

-- the CID of a block, as a link has it
abbrev pub links_block : List ℕ → Bool
links_block s = (length s == 36) && eq_by_cmp bytewise s (cid_of (drop 4 s))

abbrev pub id_in : List ℕ → Option (List ℕ)
id_in s = if links_block s then Some (drop 4 s) else None

-- the id of the block that a link leads to
abbrev pub child_in : Data → Option (List ℕ)
child_in (link s) = id_in s
child_in t = None

abbrev pub element_fits : ℕ → Data → Bool
element_fits most (link s) = links_block s
element_fits most (list ds) = bucket_fits most (list ds)
element_fits most t = false

-- bit i of a map, bytes from the first on, bits from the least significant
abbrev pub map_bit : List ℕ → ℕ → Bool
map_bit m i = slice_index m (i / 8) / 2 ^ (i % 8) % 2 == 1

-- one element for each bit that is set
abbrev pub elements_fit : ℕ → List Bool → Items → Bool
elements_fit most [] no_items = true
elements_fit most [] (item d ds) = false
elements_fit most (false ∷ bs) ds = elements_fit most bs ds
elements_fit most (true ∷ bs) no_items = false
elements_fit most (true ∷ bs) (item d ds) = element_fits most d && elements_fit most bs ds

abbrev pub map_bits : List ℕ → ℕ → ℕ → List Bool
map_bits m from count = map (map_bit m) (range_with_len from count)

-- the map and the list of elements
abbrev pub parts_fit : HamtShape → Data × Data → Bool
parts_fit p (bytes m, list ds) = (length m == 2 ^ p.width / 8) && elements_fit p.bucket (map_bits m 0 (2 ^ p.width)) ds
parts_fit p x = false

abbrev pub pair_fits : HamtShape → Option (Data × Data) → Bool
pair_fits p None = false
pair_fits p (Some x) = parts_fit p x

abbrev pub node_fits : HamtShape → Data → Bool
node_fits p t = pair_fits p (pair_in t)

-- ---- the root map

abbrev pub is_number : ℕ → Data → Bool
is_number n (integer i) = same_int (pos n) i
is_number n t = false

abbrev pub entry_fits : List ℕ → (Data → Bool) → List ℕ × Data → Bool
entry_fits k holds e = same_text k e.0 && holds e.1

abbrev pub entries_fit : HamtShape → List (List ℕ × Data) → Bool
entries_fit p (a ∷ b ∷ c ∷ []) = entry_fits (codes "hamt") (node_fits p) a && (entry_fits (codes "hashAlg") (is_number 18) b && entry_fits (codes "bucketSize") (is_number p.bucket) c)
entries_fit p es = false

abbrev pub root_fits : HamtShape → Data → Bool
root_fits p (map_data ms) = entries_fit p (members_list ms)
root_fits p t = false
