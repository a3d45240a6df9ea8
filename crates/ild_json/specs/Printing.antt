-- The DAG-JSON text of data, as the JSON value that `serde_json` writes without white space.
use Rattle.std.specs.Prelude.{ℕ, List, [], ◌∷◌, Bool, false, ◌||◌, Option, Some, None, if◌then◌else◌}
use Rattle.serde_json.specs.Data as json
use Rattle.serde_json.specs.Find.{of_integer}
use Rattle.serde_json.specs.Written.{compact_text}
use Rattle.base64.specs.Engines.{standard_no_pad}
use Rattle.base64.specs.GeneralPurpose.{encode_of}
use Rattle.ild_data.specs.Data.{Data, null, boolean, integer, text, bytes, list, map as map_of, link, Items, no_items, item, Members, no_members, member}
use Rattle.ild_data.specs.Key.{same_text}
use Rattle.ild_data.specs.CidText.{cid_text_of}
use Rattle.ild_json.specs.Slash.{slash, bytes_word}

-- an object with one member
abbrev pub single : List ℕ → json.Data → json.Data
single k d = json.object (json.member k d json.no_members)

-- bytes in base64 by the standard alphabet, without padding (RFC 4648, section 4)
unfoldable pub bytes_text : List ℕ → List ℕ
bytes_text b = encode_of standard_no_pad b

-- members, put into an object one after another; an object's keys rise bytewise
abbrev pub put_members : List (List ℕ × json.Data) → json.Members → json.Members
put_members [] found = found
put_members (m ∷ ms) found = put_members ms (json.put m.0 m.1 found)

abbrev mutual
  pub json_of : Data → json.Data
  json_of null = json.null
  json_of (boolean b) = json.boolean b
  json_of (integer n) = json.number (of_integer n)
  json_of (text s) = json.string s
  json_of (bytes b) = single slash (single bytes_word (json.string (bytes_text b)))
  json_of (list ds) = json.array (items_json ds)
  json_of (map_of ms) = json.object (put_members (members_json ms) json.no_members)
  json_of (link cid) = single slash (json.string (cid_text_of cid))

  pub items_json : Items → json.Items
  items_json no_items = json.no_items
  items_json (item d ds) = json.item (json_of d) (items_json ds)

  pub members_json : Members → List (List ℕ × json.Data)
  members_json no_members = []
  members_json (member k d ms) = (k, json_of d) ∷ members_json ms

-- whether `/` is the only key of a map, so that its object would be read as something else
abbrev pub is_slash_alone : Members → Bool
is_slash_alone no_members = false
is_slash_alone (member k d no_members) = same_text k slash
is_slash_alone (member k d (member l e ms)) = false

-- whether such a map stands in the data
abbrev mutual
  pub has_reserved : Data → Bool
  has_reserved null = false
  has_reserved (boolean b) = false
  has_reserved (integer n) = false
  has_reserved (text s) = false
  has_reserved (bytes b) = false
  has_reserved (list ds) = items_have_reserved ds
  has_reserved (map_of ms) = is_slash_alone ms || members_have_reserved ms
  has_reserved (link cid) = false

  pub items_have_reserved : Items → Bool
  items_have_reserved no_items = false
  items_have_reserved (item d ds) = has_reserved d || items_have_reserved ds

  pub members_have_reserved : Members → Bool
  members_have_reserved no_members = false
  members_have_reserved (member k d ms) = has_reserved d || members_have_reserved ms

-- the text of data, or none where it cannot be written
unfoldable pub json_text : Data → Option (List ℕ)
json_text d = if has_reserved d then None else Some (compact_text (json_of d))
