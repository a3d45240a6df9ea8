-- Every spelling is a head, then the bytes of a string, then the spellings of parts: keys and values of a map in turn, and
-- the byte string of a link.
use Rattle.std.specs.Prelude.{ℕ, pos, negsuc, List, [], ◌∷◌, length, true, false}
use Rattle.ild_data.specs.Data.{Data, null, boolean, integer, text, bytes, list, map, link, Items, no_items, item, Members, no_members, member, items_list, members_list}

abbrev pub major_of : Data → ℕ
major_of null = 7
major_of (boolean b) = 7
major_of (integer (pos n)) = 0
major_of (integer (negsuc n)) = 1
major_of (text s) = 3
major_of (bytes s) = 2
major_of (list ds) = 4
major_of (map ms) = 5
major_of (link s) = 6

abbrev pub argument_of : Data → ℕ
argument_of null = 22
argument_of (boolean false) = 20
argument_of (boolean true) = 21
argument_of (integer (pos n)) = n
argument_of (integer (negsuc n)) = n
argument_of (text s) = length s
argument_of (bytes s) = length s
argument_of (list ds) = length (items_list ds)
argument_of (map ms) = length (members_list ms)
argument_of (link s) = 42

abbrev pub string_of : Data → List ℕ
string_of (text s) = s
string_of (bytes s) = s
string_of t = []

abbrev pub keys_and_values : Members → Items
keys_and_values no_members = no_items
keys_and_values (member k d ms) = item (text k) (item d (keys_and_values ms))

abbrev pub parts_of : Data → Items
parts_of (list ds) = ds
parts_of (map ms) = keys_and_values ms
parts_of (link s) = item (bytes (0 ∷ s)) no_items
parts_of t = no_items
