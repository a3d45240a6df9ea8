-- The one spelling of data as DAG-CBOR (RFC 8949, section 3, with the shortest heads), and the id of a block.
use Rattle.std.specs.Prelude.{ℕ, ◌+◌, ◌*◌, ◌^◌, ℤ, pos, negsuc, List, [], ◌∷◌, ◌++◌, length, Bool, true, false, nat_lt, if◌then◌else◌}
use Rattle.std.specs.Int.{to_be_bytes, w16, w32, w64}
use Rattle.sha2.specs.Sha256.{sha256}
use Rattle.ild_data.specs.Data.{Data, null, boolean, integer, text, bytes, list, map, link, Items, no_items, item, Members, no_members, member, items_list, members_list}

-- the shortest head of a major type and its argument, below 2^64
abbrev pub head : ℕ → ℕ → List ℕ
head major n =
    if nat_lt n 24 then (32 * major + n) ∷ []
    else if nat_lt n (2 ^ 8) then (32 * major + 24) ∷ n ∷ []
    else if nat_lt n (2 ^ 16) then (32 * major + 25) ∷ to_be_bytes w16 n
    else if nat_lt n (2 ^ 32) then (32 * major + 26) ∷ to_be_bytes w32 n
    else (32 * major + 27) ∷ to_be_bytes w64 n

abbrev pub spell_bool : Bool → List ℕ
spell_bool false = 0xf4 ∷ []
spell_bool true = 0xf5 ∷ []

abbrev pub spell_int : ℤ → List ℕ
spell_int (pos n) = head 0 n
spell_int (negsuc n) = head 1 n

abbrev pub spell_bytes : List ℕ → List ℕ
spell_bytes s = head 2 (length s) ++ s

abbrev pub spell_text : List ℕ → List ℕ
spell_text s = head 3 (length s) ++ s

-- tag 42, and the CID behind a byte 00
abbrev pub spell_link : List ℕ → List ℕ
spell_link cid = 0xd8 ∷ 42 ∷ spell_bytes (0 ∷ cid)

abbrev mutual
  pub spell : Data → List ℕ
  spell null = 0xf6 ∷ []
  spell (boolean b) = spell_bool b
  spell (integer n) = spell_int n
  spell (text s) = spell_text s
  spell (bytes s) = spell_bytes s
  spell (list ds) = head 4 (length (items_list ds)) ++ spell_items ds
  spell (map ms) = head 5 (length (members_list ms)) ++ spell_members ms
  spell (link s) = spell_link s

  pub spell_items : Items → List ℕ
  spell_items no_items = []
  spell_items (item d ds) = spell d ++ spell_items ds

  pub spell_members : Members → List ℕ
  spell_members no_members = []
  spell_members (member k d ms) = spell_text k ++ spell d ++ spell_members ms

-- the id of a block: its sha2-256
abbrev pub id_of : List ℕ → List ℕ
id_of = sha256

-- the binary CID of a block with this id: version 1, dag-cbor, sha2-256, 32 bytes
abbrev pub cid_of : List ℕ → List ℕ
cid_of id = 0x01 ∷ 0x71 ∷ 0x12 ∷ 0x20 ∷ id
