-- The five changes of a tree of the IPLD data model, each at one place.
use Rattle.std.specs.Prelude.{ℕ, List, [], ◌∷◌, Option, Some, None, slice_get, slice_set, option_and_then, insert, remove, if◌then◌else◌}
use Rattle.std.specs.Option.{option_map_or}
use Rattle.ild_data.specs.Data.{Data, null, boolean, integer, text, bytes, list, map, link, items_of, items_list, members_of, members_list}
use Rattle.ild_data.specs.Key.{same_text, put, value_at, without}

-- a step down in a tree: to an item of a list, or to the value of a key of a map
pub data TreeStep : Type 0 where
  nth : ℕ → TreeStep
  key : List ℕ → TreeStep

-- the part to which one step leads
abbrev pub child : TreeStep → Data → Option Data
child s null = None
child s (boolean b) = None
child s (integer n) = None
child s (text x) = None
child s (bytes x) = None
child (nth i) (list ds) = slice_get (items_list ds) i
child (key k) (list ds) = None
child (nth i) (map ms) = None
child (key k) (map ms) = value_at k (members_list ms)
child s (link x) = None

-- the entries, with another value at a key that is there
abbrev pub replaced_at : {V : Type 0} → List ℕ → V → List (List ℕ × V) → List (List ℕ × V)
replaced_at k v [] = []
replaced_at k v (m ∷ ms) = if same_text k m.0 then (m.0, v) ∷ ms else m ∷ replaced_at k v ms

-- the tree with another part there, and all else as it was
abbrev pub with_child : TreeStep → Data → Data → Data
with_child s e null = null
with_child s e (boolean b) = boolean b
with_child s e (integer n) = integer n
with_child s e (text x) = text x
with_child s e (bytes x) = bytes x
with_child (nth i) e (list ds) = list (items_of (slice_set (items_list ds) i e))
with_child (key k) e (list ds) = list ds
with_child (nth i) e (map ms) = map ms
with_child (key k) e (map ms) = map (members_of (replaced_at k e (members_list ms)))
with_child s e (link x) = link x

-- the part at a place: the steps to it, from the top down
abbrev pub part_at : List TreeStep → Data → Option Data
part_at [] d = Some d
part_at (s ∷ q) d = option_and_then (λ e. part_at q e) (child s d)

-- the tree in which the part at a place is what f makes of it
abbrev pub altered : (Data → Data) → List TreeStep → Data → Data
altered f [] d = f d
altered f (s ∷ q) d = option_map_or (λ e. with_child s (altered f q e) d) (child s d) d

pub data TreeChange : Type 0 where
  replace : Data → TreeChange
  insert_item : ℕ → Data → TreeChange
  insert_entry : List ℕ → Data → TreeChange
  remove_item : ℕ → TreeChange
  remove_entry : List ℕ → TreeChange

-- the items and the entries of a tree, changed
abbrev pub on_items : (List Data → List Data) → Data → Data
on_items f (list ds) = list (items_of (f (items_list ds)))
on_items f d = d

abbrev pub on_entries : (List (List ℕ × Data) → List (List ℕ × Data)) → Data → Data
on_entries f (map ms) = map (members_of (f (members_list ms)))
on_entries f d = d

abbrev pub change_here : TreeChange → Data → Data
change_here (replace e) d = e
change_here (insert_item i e) d = on_items (λ ds. insert ds i e) d
change_here (insert_entry k e) d = on_entries (λ ms. put k e ms) d
change_here (remove_item i) d = on_items (λ ds. remove ds i) d
change_here (remove_entry k) d = on_entries (λ ms. without k ms) d

-- one change, of the part at a place
abbrev pub changed : List TreeStep → TreeChange → Data → Data
changed q c d = altered (change_here c) q d

-- one change at a place, or none
pub data Located : Type 0 where
  unchanged : Located
  one : List TreeStep → TreeChange → Located

abbrev pub applied : Located → Data → Data
applied unchanged d = d
applied (one q c) d = changed q c d
