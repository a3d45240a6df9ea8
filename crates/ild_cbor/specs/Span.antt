-- The parts of a tree, and where they stand in its spelling.
use Rattle.std.specs.Prelude.{ℕ, zero, suc, ◌+◌, List, [], ◌∷◌, ◌++◌, length, Option, Some, None, option_map, option_and_then, slice_get, if◌then◌else◌}
use Rattle.ild_data.specs.Data.{Data, list, map, Items, no_items, item, Members, no_members, member, items_list, members_list}
use Rattle.ild_data.specs.Spell.{head, spell, spell_text}
use Rattle.ild_data.specs.Key.{same_text, value_at}

-- the parts in order: the items of a list, the values of a map
abbrev pub part_of : Data → ℕ → Option Data
part_of (list ds) i = slice_get (items_list ds) i
part_of (map ms) i = option_map (λ m. m.1) (slice_get (members_list ms) i)
part_of t i = None

-- the spellings that stand before the item number i
abbrev pub items_before : ℕ → Items → List ℕ
items_before zero ds = []
items_before (suc i) no_items = []
items_before (suc i) (item d ds) = spell d ++ items_before i ds

-- the spellings that stand before the value number i, its key among them
abbrev pub values_before : ℕ → Members → List ℕ
values_before zero no_members = []
values_before zero (member k d ms) = spell_text k
values_before (suc i) no_members = []
values_before (suc i) (member k d ms) = spell_text k ++ (spell d ++ values_before i ms)

-- all that stands before the part number i, and how much it is
abbrev pub before_part : Data → ℕ → List ℕ
before_part (list ds) i = head 4 (length (items_list ds)) ++ items_before i ds
before_part (map ms) i = head 5 (length (members_list ms)) ++ values_before i ms
before_part t i = []

abbrev pub place_of : Data → ℕ → ℕ
place_of t i = length (before_part t i)

-- ---- a part by a list of positions, from the whole tree down

abbrev pub tree_at : Data → List ℕ → Option Data
tree_at t [] = Some t
tree_at t (i ∷ q) = option_and_then (λ u. tree_at u q) (part_of t i)

pub record Span : Type 0 where
  pub start : ℕ
  pub size : ℕ

abbrev pub beneath : ℕ → Span → Span
beneath place s = record { start = place + s.start; size = s.size }

abbrev pub span_of : Data → List ℕ → Option Span
span_of t [] = Some (record { start = 0; size = length (spell t) })
span_of t (i ∷ q) = option_and_then (λ u. option_map (beneath (place_of t i)) (span_of u q)) (part_of t i)

-- ---- a value by its key

-- the number of the entry at a key, or of all entries where there is none
abbrev pub key_index : List ℕ → Members → ℕ
key_index key no_members = 0
key_index key (member k d ms) = if same_text key k then 0 else suc (key_index key ms)

abbrev pub index_of : List ℕ → Data → ℕ
index_of key (map ms) = key_index key ms
index_of key t = 0

-- the value at a key of a map
abbrev pub entry_of : Data → List ℕ → Option Data
entry_of (map ms) key = value_at key (members_list ms)
entry_of t key = None

-- the item at a place of a list
abbrev pub item_of : Data → ℕ → Option Data
item_of (list ds) i = slice_get (items_list ds) i
item_of t i = None
