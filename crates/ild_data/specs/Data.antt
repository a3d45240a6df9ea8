-- The IPLD data model without floats (DAG-CBOR, "Links" and "Strictness"): what a block can say.
-- A list's items and a map's entries are data of their own, since a data type does not nest in `List`.
use Rattle.std.specs.Prelude.{ℕ, ◌+◌, max, ℤ, List, [], ◌∷◌, Bool}

mutual
  pub data Data : Type 0 where
    null : Data
    boolean : Bool → Data
    integer : ℤ → Data
    text : List ℕ → Data
    bytes : List ℕ → Data
    list : Items → Data
    map : Members → Data
    link : List ℕ → Data

  pub data Items : Type 0 where
    no_items : Items
    item : Data → Items → Items

  pub data Members : Type 0 where
    no_members : Members
    member : List ℕ → Data → Members → Members

-- the items of a list, from a plain list and as one
abbrev pub items_of : List Data → Items
items_of [] = no_items
items_of (d ∷ ds) = item d (items_of ds)

abbrev pub items_list : Items → List Data
items_list no_items = []
items_list (item d ds) = d ∷ items_list ds

-- the entries of a map, from a plain list of pairs and as one
abbrev pub members_of : List (List ℕ × Data) → Members
members_of [] = no_members
members_of (m ∷ ms) = member m.0 m.1 (members_of ms)

abbrev pub members_list : Members → List (List ℕ × Data)
members_list no_members = []
members_list (member k d ms) = (k, d) ∷ members_list ms

-- how deep lists and maps nest: 0 for a scalar, 1 for an empty container
abbrev mutual
  pub depth : Data → ℕ
  depth null = 0
  depth (boolean b) = 0
  depth (integer n) = 0
  depth (text s) = 0
  depth (bytes s) = 0
  depth (list ds) = items_depth ds + 1
  depth (map ms) = members_depth ms + 1
  depth (link s) = 0

  pub items_depth : Items → ℕ
  items_depth no_items = 0
  items_depth (item d ds) = max (depth d) (items_depth ds)

  pub members_depth : Members → ℕ
  members_depth no_members = 0
  members_depth (member k d ms) = max (depth d) (members_depth ms)
