-- More blocks, shown forms, paths and causes of small values: a schema that a club could have, texts whose delimiters overlap,
-- and names that cross.
use Rattle.std.specs.Prelude.{◌≡◌, ℕ, pos, true, false, List, [], ◌∷◌, ◌++◌, Option, Some, None, option_map, codes, replicate, refl, IsUtf8}
use Rattle.std.proofs.Math.Utf8.{encode}
use Rattle.std.proofs.lemmas.Str.{is_utf8-from_IsUtf8}
use Rattle.ild_data.specs.Data as T
use Rattle.ild_data.specs.Data.{Data}
use Rattle.ild_data.specs.Padded.{padded}
use Rattle.ild_data.specs.Spell.{spell}
use Rattle.ild_data.specs.Trie.{trie, node_of}
use Rattle.ild_schema.specs.declared.def.TypeDef.{TypeDef}
use Rattle.ild_schema.specs.declared.def.TypeDef.TheVariants as D
use Rattle.ild_schema.specs.declared.def.UnitForm.TheVariants as U
use Rattle.ild_schema.specs.declared.def.MapForm.TheVariants as MF
use Rattle.ild_schema.specs.declared.def.StructForm.TheVariants as S
use Rattle.ild_schema.specs.declared.def.UnionForm.TheVariants as UF
use Rattle.ild_schema.specs.declared.def.EnumForm.TheVariants as E
use Rattle.ild_schema.specs.declared.def.EnumMember.{EnumMember}
use Rattle.ild_schema.specs.declared.def.KindWord.TheVariants as K
use Rattle.ild_schema.specs.declared.def.Mark.TheVariants as M
use Rattle.ild_schema.specs.declared.def.Scalar.TheVariants as C
use Rattle.ild_schema.specs.Prelude.{number}
use Rattle.ild_schema.specs.Slots.{plainly}
use Rattle.ild_schema.specs.Value as V
use Rattle.ild_schema.specs.Value.{Value}
use Rattle.ild_typed.specs.At.{at}
use Rattle.ild_data.specs.TrieShape.{usual}
use Rattle.ild_typed.specs.Hamt.{whole, alone}
use Rattle.ild_typed.specs.Judged.{has_hole, breaks_delimiter, exhausts}
use Rattle.ild_typed.specs.Levels.{levels_of}
use Rattle.ild_typed.specs.NodeReading.{root_fits}
use Rattle.ild_typed.specs.Represented.{represented}
use Rattle.ild_typed.specs.Shown.{shown}
use Rattle.ild_typed.specs.Strings.{map_data}
use Rattle.ild_typed.proofs.Examples.{field, struct_of, map_of, member, block, two, t, n, joined_by, q, pairs2, tuple, table, top, entry}

-- ---- maps

map_of_one : block (map_of 3 MF.Map ∷ []) (V.map (V.pair (codes "a") (n 1) V.no_pairs)) ≡ Some (0xa1 ∷ 0x61 ∷ 0x61 ∷ 0x01 ∷ [])
map_of_one = refl

map_of_none : block (map_of 3 MF.Map ∷ []) (V.map V.no_pairs) ≡ Some (0xa0 ∷ [])
map_of_none = refl

-- pairs stand in the value's order
pairs_in_their_order : block (map_of 3 MF.ListPairs ∷ []) (pairs2 (codes "b") (n 1) (codes "a") (n 3))
    ≡ Some (0x82 ∷ 0x82 ∷ 0x61 ∷ 0x62 ∷ 0x01 ∷ 0x82 ∷ 0x61 ∷ 0x61 ∷ 0x03 ∷ [])
pairs_in_their_order = refl

-- ---- texts

an_empty_part : block (joined_by (codes ":")) (two (t []) (t (codes "y"))) ≡ Some (0x62 ∷ 0x3a ∷ 0x79 ∷ [])
an_empty_part = refl

-- a part that ends as the delimiter begins
part_before_a_joint : breaks_delimiter (table (joined_by (codes "aba"))) top (two (t (codes "ab")) (t [])) ≡ true
part_before_a_joint = refl

abbrev doubled : List TypeDef
doubled = map_of 7 (MF.StringPairs (codes "aa") (codes "&")) ∷ []

abbrev pair1 : List ℕ → List ℕ → Value
pair1 k s = V.map (V.pair k (t s) V.no_pairs)

key_that_begins_a_delimiter : breaks_delimiter (table doubled) top (pair1 (codes "a") (codes "v")) ≡ true
key_that_begins_a_delimiter = refl

key_that_ends_so : breaks_delimiter (table doubled) top (pair1 (codes "xa") (codes "v")) ≡ true
key_that_ends_so = refl

value_that_is_a_delimiter : block doubled (pair1 (codes "x") (codes "aa")) ≡ Some (0x65 ∷ codes "xaaaa")
value_that_is_a_delimiter = refl

entry_delimiter_in_a_key : breaks_delimiter (table q) top (pair1 (codes "a&b") (codes "1")) ≡ true
entry_delimiter_in_a_key = refl

-- a text of pairs inside a joined text: a struct of two optional fields of one letter each
abbrev inside : List TypeDef
inside =
    struct_of (field (codes "a") 7 false ∷ field (codes "b") 9 false ∷ []) (S.StringJoin (codes "aa"))
    ∷ struct_of (field (codes "b") 7 true ∷ field (codes "a") 7 true ∷ []) (S.StringPairs (codes "=") (codes "&"))
    ∷ []

abbrev pair_fields : Option (List ℕ) → Value
pair_fields None = V.struct (V.absent (V.present (t (codes "2")) V.no_optionals))
pair_fields (Some b) = V.struct (V.present (t b) (V.present (t (codes "2")) V.no_optionals))

inner_text_of_two : block inside (two (t []) (pair_fields (Some (codes "1")))) ≡ Some (0x69 ∷ codes "aab=1&a=2")
inner_text_of_two = refl

-- without the first field the inner text begins with a letter of the outer delimiter
outer_text_breaks : breaks_delimiter (table inside) top (two (t []) (pair_fields None)) ≡ true
outer_text_breaks = refl

outer_text_breaks_too : breaks_delimiter (table inside) top (two (t []) (pair_fields (Some (codes "aa")))) ≡ true
outer_text_breaks_too = refl

inner_text_breaks : breaks_delimiter (table inside) top (two (t []) (pair_fields (Some (codes "1&2")))) ≡ true
inner_text_breaks = refl

-- ---- structs

tuple_of_three : block tuple (V.struct (V.present (n 1) (V.present (n 2) (V.present (n 3) V.no_optionals)))) ≡ Some (0x83 ∷ 0x01 ∷ 0x02 ∷ 0x03 ∷ [])
tuple_of_three = refl

tuple_of_two_is_no_hole : has_hole (table tuple) top (V.struct (V.present (n 1) (V.present (n 2) (V.absent V.no_optionals)))) ≡ false
tuple_of_two_is_no_hole = refl

-- each of two fields is written under the name of the other
abbrev crossed : List TypeDef
crossed =
    struct_of (
    record { name = codes "a"; at = 0; optional = false; slot = plainly (number 3); rename = Some (codes "b"); implicit = None }
    ∷ record { name = codes "b"; at = 0; optional = false; slot = plainly (number 3); rename = Some (codes "a"); implicit = None }
    ∷ []
    )
    S.Map
    ∷ []

names_that_cross : block crossed (two (n 1) (n 2)) ≡ Some (0xa2 ∷ 0x61 ∷ 0x61 ∷ 0x02 ∷ 0x61 ∷ 0x62 ∷ 0x01 ∷ [])
names_that_cross = refl

shown_by_their_own : shown (table crossed) top (two (n 1) (n 2)) ≡ map_data (entry (codes "a") (T.integer (pos 1)) (entry (codes "b") (T.integer (pos 2)) []))
shown_by_their_own = refl

-- null in the place of an implicit value is written
abbrev maybe_zero : List TypeDef
maybe_zero =
    struct_of (record { name = codes "n"; at = 0; optional = false; slot = record { ty = number 3; nullable = true }; rename = None; implicit = Some (C.Int (pos 0)) } ∷ []) S.Map
    ∷ []

null_is_written : block maybe_zero (V.struct (V.present V.null V.no_optionals)) ≡ Some (0xa1 ∷ 0x61 ∷ 0x6e ∷ 0xf6 ∷ [])
null_is_written = refl

zero_is_left_out : block maybe_zero (V.struct (V.present (n 0) V.no_optionals)) ≡ Some (0xa0 ∷ [])
zero_is_left_out = refl

-- ---- units, unions

unit_is_shown : shown (table (D.Unit U.True ∷ [])) top V.unit ≡ T.map T.no_members
unit_is_shown = refl

unit_as_true : block (D.Unit U.True ∷ []) V.unit ≡ Some (0xf5 ∷ [])
unit_as_true = refl

-- a union by kinds as a member of another
abbrev by_kinds : List TypeDef
by_kinds =
    D.Union (record {
      members = record { name = codes "A"; at = 0; ty = number 9; mark = M.Kind K.Int } ∷ record { name = codes "B"; at = 0; ty = number 7; mark = M.Kind K.Text } ∷ [];
      form = UF.Kinded;
    })
    ∷ D.Union (record { members = record { name = codes "C"; at = 0; ty = number 3; mark = M.Kind K.Int } ∷ []; form = UF.Kinded })
    ∷ []

kinds_inside_kinds : block by_kinds (V.union 0 (V.union 0 (n 5))) ≡ Some (0x05 ∷ [])
kinds_inside_kinds = refl

kind_of_another_member : block by_kinds (V.union 0 (V.union 0 (t []))) ≡ None
kind_of_another_member = refl

-- ---- how deep forms nest

levels_of_pairs : levels_of (map_of 3 MF.ListPairs) V.null ≡ 2
levels_of_pairs = refl

levels_of_a_hamt : levels_of (map_of 3 (MF.Hamt usual)) V.null ≡ 5
levels_of_a_hamt = refl

levels_of_a_unit : levels_of (D.Unit U.Null) V.null ≡ 1
levels_of_a_unit = refl

levels_of_any : levels_of D.Any (V.any (T.list (T.item (T.list T.no_items) T.no_items))) ≡ 2
levels_of_any = refl

-- ---- a map in a struct, with a key that is a slash

abbrev boxed : List TypeDef
boxed = struct_of (field (codes "m") 9 false ∷ []) S.Map ∷ map_of 7 MF.Map ∷ []

abbrev slashed : Value
slashed = V.struct (V.present (pair1 (codes "/") (codes "v")) V.no_optionals)

at_a_slash : at (table boxed) (top, slashed) (codes "m" ∷ codes "/" ∷ []) ≡ Some (plainly (number 7), t (codes "v"))
at_a_slash = refl

-- ---- a club: types 8 to 14 are the club, its users, a user, a role, a contact, a phone and a room

abbrev as_text : List ℕ → List ℕ → EnumMember
as_text name text = record { name = name; at = 0; text = Some text }

abbrev club : List TypeDef
club =
    struct_of (field (codes "name") 7 false ∷ field (codes "users") 9 false ∷ field (codes "motto") 7 true ∷ []) S.Map
    ∷ map_of 10 (MF.Hamt usual)
    ∷ struct_of (
    field (codes "mail") 7 false
    ∷ field (codes "role") 11 false
    ∷ record { name = codes "age"; at = 0; optional = false; slot = record { ty = number 3; nullable = true }; rename = None; implicit = None }
    ∷ field (codes "nick") 7 true
    ∷ field (codes "avatar") 2 true
    ∷ field (codes "contact") 12 false
    ∷ []
    )
    S.Map
    ∷ D.Enum (record { members = as_text (codes "Admin") (codes "a") ∷ as_text (codes "Guest") (codes "g") ∷ []; form = E.Text })
    ∷ D.Union (record { members = member (codes "Phone") 13 (codes "phone") ∷ member (codes "Room") 14 (codes "room") ∷ []; form = UF.Keyed })
    ∷ D.Text
    ∷ struct_of (field (codes "floor") 3 false ∷ field (codes "door") 3 false ∷ []) S.Tuple
    ∷ []

abbrev room : Value
room = V.union 1 (two (n 2) (n 7))

abbrev ann : Value → Value
ann contact =
    V.struct
    (V.present (t (codes "ann@x"))
    (V.present (V.enum 0) (V.present V.null (V.absent (V.present (V.bytes (1 ∷ 2 ∷ [])) (V.present contact V.no_optionals))))))

abbrev club_of : Value → Value
club_of users = V.struct (V.present (t (codes "Kite")) (V.present users (V.absent V.no_optionals)))

abbrev text_data : List ℕ → Data
text_data = T.text

represented_user : represented alone (table club) (plainly (number 10)) (ann (V.union 0 (t (codes "12"))))
    ≡ Some
    (map_data
    (entry (codes "age") T.null
    (entry (codes "mail") (text_data (codes "ann@x"))
    (entry (codes "role") (text_data (codes "a"))
    (entry (codes "avatar") (T.bytes (1 ∷ 2 ∷ [])) (entry (codes "contact") (map_data (entry (codes "phone") (text_data (codes "12")) [])) []))))))
represented_user = refl

represented_room : represented alone (table club) (plainly (number 12)) room
    ≡ Some (map_data (entry (codes "room") (T.list (T.item (T.integer (pos 2)) (T.item (T.integer (pos 7)) T.no_items))) []))
represented_room = refl

shown_room : shown (table club) (plainly (number 12)) room
    ≡ map_data (entry (codes "Room") (map_data (entry (codes "door") (T.integer (pos 7)) (entry (codes "floor") (T.integer (pos 2)) []))) [])
shown_room = refl

anns_role : at (table club) (plainly (number 8), club_of (V.map (V.pair (codes "ann") (ann room) V.no_pairs))) (codes "users" ∷ codes "ann" ∷ codes "role" ∷ [])
    ≡ Some (plainly (number 11), V.enum 0)
anns_role = refl

role_by_its_name : shown (table club) (plainly (number 11)) (V.enum 0) ≡ text_data (codes "Admin")
role_by_its_name = refl

-- the optional motto is in no block, and is no part
no_motto : at (table club) (plainly (number 8), club_of (V.map V.no_pairs)) (codes "motto" ∷ []) ≡ None
no_motto = refl

club_without_users : option_map spell (represented (whole (λ k. k)) (table club) (plainly (number 8)) (club_of (V.map V.no_pairs)))
    ≡ Some
    (0xa2 ∷ 0x64 ∷ codes "name" ++ (0x64 ∷ codes "Kite" ++ (0x65 ∷ codes "users" ++ (0xa3 ∷ 0x64 ∷ codes "hamt" ++ (0x82 ∷ 0x58 ∷ 0x20 ∷ (replicate 32 0 ++ (0x80 ∷ 0x67 ∷ codes "hashAlg" ++ (0x12 ∷ 0x6a ∷ codes "bucketSize" ++ 0x03 ∷ []))))))))
unfolding trie node_of
club_without_users = refl

-- ---- HAMTs

abbrev hamt : List TypeDef
hamt = map_of 3 (MF.Hamt usual) ∷ []

abbrev same_letters : ℕ → List ℕ
same_letters c = replicate 32 107 ++ c ∷ []

abbrev of_three : Value
of_three = V.map (V.pair (same_letters 49) (n 0) (V.pair (same_letters 50) (n 0) (V.pair (same_letters 51) (n 0) V.no_pairs)))

abbrev of_four : Value
of_four = V.map (V.pair (same_letters 49) (n 0) (V.pair (same_letters 50) (n 0) (V.pair (same_letters 51) (n 0) (V.pair (same_letters 52) (n 0) V.no_pairs))))

-- a bucket takes three keys that no level tells apart, and no more
three_fit : exhausts padded (table hamt) top of_three ≡ false
unfolding trie node_of
three_fit = refl

four_exhaust : exhausts padded (table hamt) top of_four ≡ true
unfolding trie node_of
four_exhaust = refl

-- the root map of a node, byte 23 of whose map is so, with these elements
abbrev root_with : ℕ → ℕ → ℕ → List Data → Data
root_with alg most bits ds =
    map_data
    (entry (codes "hamt") (T.list (T.items_of (T.bytes (replicate 23 0 ++ (bits ∷ replicate 8 0)) ∷ T.list (T.items_of ds) ∷ [])))
    (entry (codes "hashAlg") (T.integer (pos alg)) (entry (codes "bucketSize") (T.integer (pos most)) [])))

abbrev one_entry : Data
one_entry = T.list (T.items_of (T.list (T.items_of (T.bytes (codes "abc") ∷ T.integer (pos 1) ∷ [])) ∷ []))

abc_text : IsUtf8 (codes "abc")
unfolding encode
abc_text = (codes "abc", (refl, refl))

a_root : root_fits usual (root_with 18 3 4 (one_entry ∷ [])) ≡ true
a_root = rw (is_utf8-from_IsUtf8 (codes "abc") abc_text) refl

-- a link to the block of a node, and one to another block
abbrev to_node : Data
to_node = T.link (0x01 ∷ 0x71 ∷ 0x12 ∷ 0x20 ∷ replicate 32 0)

abbrev to_another : Data
to_another = T.link (0x01 ∷ 0x55 ∷ 0x12 ∷ 0x20 ∷ replicate 32 0)

a_root_with_a_child : root_fits usual (root_with 18 3 4 (to_node ∷ [])) ≡ true
a_root_with_a_child = refl

link_to_no_node : root_fits usual (root_with 18 3 4 (to_another ∷ [])) ≡ false
link_to_no_node = refl

-- an element for each bit, and a bit for each element
too_few_elements : root_fits usual (root_with 18 3 5 (to_node ∷ [])) ≡ false
too_few_elements = refl

too_many_elements : root_fits usual (root_with 18 3 4 (to_node ∷ to_node ∷ [])) ≡ false
too_many_elements = refl

empty_bucket : root_fits usual (root_with 18 3 4 (T.list T.no_items ∷ [])) ≡ false
empty_bucket = refl

other_hash : root_fits usual (root_with 34 3 4 (to_node ∷ [])) ≡ false
other_hash = refl

other_bucket_size : root_fits usual (root_with 18 4 4 (to_node ∷ [])) ≡ false
other_bucket_size = refl
