-- Data whose links tell nothing but how long they are.
use Rattle.std.specs.Prelude.{ℕ, List, [], ◌∷◌, length, replicate}
use Rattle.std.specs.Prelude as P
use Rattle.ild_data.specs.Data.{Data, null, boolean, integer, text, bytes, list, map, link, Items, no_items, item, Members, no_members, member}

abbrev pub blank_link : List ℕ → List ℕ
blank_link s = replicate (length s) 0

abbrev mutual
  pub blank : Data → Data
  blank null = null
  blank (boolean b) = boolean b
  blank (integer n) = integer n
  blank (text s) = text s
  blank (bytes s) = bytes s
  blank (list ds) = list (blank_items ds)
  blank (map ms) = map (blank_members ms)
  blank (link s) = link (blank_link s)

  pub blank_items : Items → Items
  blank_items no_items = no_items
  blank_items (item d ds) = item (blank d) (blank_items ds)

  pub blank_members : Members → Members
  blank_members no_members = no_members
  blank_members (member k d ms) = member k (blank d) (blank_members ms)

-- the values of entries
abbrev pub blank_entry : List ℕ × Data → List ℕ × Data
blank_entry e = (e.0, blank e.1)

abbrev pub blank_entries : List (List ℕ × Data) → List (List ℕ × Data)
blank_entries es = P.map blank_entry es
