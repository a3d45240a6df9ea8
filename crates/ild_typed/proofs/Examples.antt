-- Small schemas and the blocks of some of their values.
use Rattle.std.specs.Prelude.{◌≡◌, ℕ, pos, Bool, true, false, List, [], ◌∷◌, ◌++◌, Option, Some, None, option_map, codes, replicate, refl}
use Rattle.ild_data.specs.Data as T
use Rattle.ild_data.specs.Data.{Data}
use Rattle.ild_data.specs.Spell.{spell}
use Rattle.ild_schema.specs.declared.number.Slot.{Slot}
use Rattle.ild_schema.specs.declared.def.TypeDef.{TypeDef}
use Rattle.ild_schema.specs.declared.def.TypeDef.TheVariants as D
use Rattle.ild_schema.specs.declared.def.UnitForm.TheVariants as U
use Rattle.ild_schema.specs.declared.def.MapForm.{MapForm}
use Rattle.ild_schema.specs.declared.def.MapForm.TheVariants as MF
use Rattle.ild_schema.specs.declared.def.StructForm.{StructForm}
use Rattle.ild_schema.specs.declared.def.StructForm.TheVariants as S
use Rattle.ild_schema.specs.declared.def.UnionForm.{UnionForm}
use Rattle.ild_schema.specs.declared.def.UnionForm.TheVariants as UF
use Rattle.ild_schema.specs.declared.def.EnumForm.TheVariants as E
use Rattle.ild_schema.specs.declared.def.Field.{Field}
use Rattle.ild_schema.specs.declared.def.Member.{Member}
use Rattle.ild_schema.specs.declared.def.EnumMember.{EnumMember}
use Rattle.ild_schema.specs.declared.def.Mark.TheVariants as M
use Rattle.ild_schema.specs.declared.def.Scalar.TheVariants as C
use Rattle.ild_schema.specs.declared.row.Row.{Row}
use Rattle.ild_schema.specs.Value as V
use Rattle.ild_schema.specs.Value.{Value}
use Rattle.ild_schema.specs.Prelude.{prelude, given, number}
use Rattle.ild_schema.specs.Slots.{plainly}
use Rattle.ild_typed.specs.Hamt.{whole, alone}
use Rattle.ild_typed.specs.Represented.{represented}
use Rattle.ild_typed.specs.Strings.{map_data}
use Rattle.ild_typed.specs.Shown.{shown}
use Rattle.ild_data.specs.Trie.{trie, node_of}
use Rattle.ild_data.specs.TrieShape.{usual}
use Rattle.ild_typed.specs.Judged.{has_hole, breaks_delimiter}

ints : ℕ
ints = 3

texts : ℕ
texts = 7

abbrev pub field : List ℕ → ℕ → Bool → Field
field name n optional = record { name = name; at = 0; optional = optional; slot = plainly (number n); rename = None; implicit = None }

abbrev pub struct_of : List Field → StructForm → TypeDef
struct_of fs form = D.Struct (record { fields = fs; form = form })

abbrev pub map_of : ℕ → MapForm → TypeDef
map_of n form = D.Map (number 7) 0 (plainly (number n)) 0 form

abbrev pub member : List ℕ → ℕ → List ℕ → Member
member name n mark = record { name = name; at = 0; ty = number n; mark = M.Text mark }

-- the block of a value of type 8, which is the first of these
abbrev pub block : List TypeDef → Value → Option (List ℕ)
block ds v = option_map spell (represented alone (prelude ++ rows ds) (plainly (number 8)) v) where
  rows : List TypeDef → List Row
  rows [] = []
  rows (d ∷ ds) = given [] d ∷ rows ds

abbrev pub two : Value → Value → Value
two v w = V.struct (V.present v (V.present w V.no_optionals))

abbrev pub t : List ℕ → Value
t s = V.text s

abbrev pub n : ℕ → Value
n k = V.integer (pos k)

-- a text of two parts
abbrev pub joined_by : List ℕ → List TypeDef
joined_by delim = struct_of (field (codes "a") 7 false ∷ field (codes "b") 7 false ∷ []) (S.StringJoin delim) ∷ []

joined_parts : block (joined_by (codes ":")) (two (t (codes "x")) (t (codes "y"))) ≡ Some (0x63 ∷ 0x78 ∷ 0x3a ∷ 0x79 ∷ [])
joined_parts = refl

delimiter_in_a_part : block (joined_by (codes ":")) (two (t (codes "p:q")) (t (codes "y"))) ≡ None
delimiter_in_a_part = refl

delimiters_overlap : block (joined_by (codes "aa")) (two (t (codes "a")) (t (codes "b"))) ≡ None
delimiters_overlap = refl

empty_parts : block (joined_by (codes "aa")) (two (t []) (t [])) ≡ Some (0x62 ∷ 0x61 ∷ 0x61 ∷ [])
empty_parts = refl

-- a text of pairs
abbrev pub q : List TypeDef
q = map_of 7 (MF.StringPairs (codes "=") (codes "&")) ∷ []

abbrev pub pairs2 : List ℕ → Value → List ℕ → Value → Value
pairs2 k v l w = V.map (V.pair k v (V.pair l w V.no_pairs))

joined_pairs : block q (pairs2 (codes "a") (t (codes "1")) (codes "b") (t [])) ≡ Some (0x66 ∷ 0x61 ∷ 0x3d ∷ 0x31 ∷ 0x26 ∷ 0x62 ∷ 0x3d ∷ [])
joined_pairs = refl

entry_delimiter_in_a_value : block q (pairs2 (codes "a") (t (codes "1&2")) (codes "b") (t [])) ≡ None
entry_delimiter_in_a_value = refl

inner_delimiter_in_a_key : block q (pairs2 (codes "a=b") (t (codes "1")) (codes "b") (t [])) ≡ None
inner_delimiter_in_a_key = refl

inner_delimiter_in_a_value : block q (pairs2 (codes "a") (t (codes "x=y")) (codes "b") (t [])) ≡ Some (0x68 ∷ codes "a=x=y&b=")
inner_delimiter_in_a_value = refl

no_pairs_are_the_empty_text : block q (V.map V.no_pairs) ≡ Some (0x60 ∷ [])
no_pairs_are_the_empty_text = refl

map_as_pairs : block (map_of 3 MF.ListPairs ∷ []) (pairs2 (codes "a") (n 2) (codes "b") (n 1))
    ≡ Some (0x82 ∷ 0x82 ∷ 0x61 ∷ 0x61 ∷ 0x02 ∷ 0x82 ∷ 0x61 ∷ 0x62 ∷ 0x01 ∷ [])
map_as_pairs = refl

-- a tuple with two optional fields
abbrev pub tuple : List TypeDef
tuple = struct_of (field (codes "a") 3 false ∷ field (codes "b") 3 true ∷ field (codes "c") 3 true ∷ []) S.Tuple ∷ []

tuple_of_one : block tuple (V.struct (V.present (n 1) (V.absent (V.absent V.no_optionals)))) ≡ Some (0x81 ∷ 0x01 ∷ [])
tuple_of_one = refl

tuple_of_two : block tuple (V.struct (V.present (n 1) (V.present (n 2) (V.absent V.no_optionals)))) ≡ Some (0x82 ∷ 0x01 ∷ 0x02 ∷ [])
tuple_of_two = refl

tuple_with_a_hole : block tuple (V.struct (V.present (n 1) (V.absent (V.present (n 3) V.no_optionals)))) ≡ None
tuple_with_a_hole = refl

implicit_is_left_out : block (struct_of (record { name = codes "n"; at = 0; optional = false; slot = plainly (number 3); rename = None; implicit = Some (C.Int (pos 0)) } ∷ []) S.Map ∷ [])
    (V.struct (V.present (n 0) V.no_optionals)) ≡ Some (0xa0 ∷ [])
implicit_is_left_out = refl

-- a union of two structs
abbrev pub dot_or_box : UnionForm → List TypeDef
dot_or_box form =
    D.Union (record { members = member (codes "Dot") 9 (codes "dot") ∷ member (codes "Box") 10 (codes "box") ∷ []; form = form })
    ∷ struct_of (field (codes "x") 3 false ∷ []) S.Map
    ∷ struct_of (field (codes "w") 3 false ∷ field (codes "h") 3 false ∷ []) S.Map
    ∷ []

abbrev pub box : Value
box = V.union 1 (two (n 2) (n 3))

keyed_union : block (dot_or_box UF.Keyed) box ≡ Some (0xa1 ∷ 0x63 ∷ codes "box" ++ 0xa2 ∷ 0x61 ∷ 0x68 ∷ 0x03 ∷ 0x61 ∷ 0x77 ∷ 0x02 ∷ [])
keyed_union = refl

union_in_an_envelope : block (dot_or_box (UF.Envelope (codes "k") (codes "c"))) box
    ≡ Some (0xa2 ∷ 0x61 ∷ 0x63 ∷ 0xa2 ∷ 0x61 ∷ 0x68 ∷ 0x03 ∷ 0x61 ∷ 0x77 ∷ 0x02 ∷ 0x61 ∷ 0x6b ∷ 0x63 ∷ codes "box")
union_in_an_envelope = refl

inline_union : block (dot_or_box (UF.Inline (codes "k"))) box
    ≡ Some (0xa3 ∷ 0x61 ∷ 0x68 ∷ 0x03 ∷ 0x61 ∷ 0x6b ∷ 0x63 ∷ codes "box" ++ 0x61 ∷ 0x77 ∷ 0x02 ∷ [])
inline_union = refl

abbrev enum_member : List ℕ → List ℕ → EnumMember
enum_member name text = record { name = name; at = 0; text = Some text }

enum_as_int : block (D.Enum (record { members = enum_member (codes "No") (codes "0") ∷ enum_member (codes "Yes") (codes "1") ∷ []; form = E.Int }) ∷ []) (V.enum 1) ≡ Some (0x01 ∷ [])
enum_as_int = refl

union_behind_bytes : block (D.Union (record { members = member (codes "Raw") 2 (codes "01") ∷ []; form = UF.BytesPrefix }) ∷ []) (V.union 0 (V.bytes (0xaa ∷ 0xbb ∷ [])))
    ≡ Some (0x43 ∷ 0x01 ∷ 0xaa ∷ 0xbb ∷ [])
union_behind_bytes = refl

struct_as_pairs : block (struct_of (field (codes "a") 3 false ∷ field (codes "b") 7 false ∷ []) S.ListPairs ∷ []) (two (n 1) (t (codes "x")))
    ≡ Some (0x82 ∷ 0x82 ∷ 0x61 ∷ 0x61 ∷ 0x01 ∷ 0x82 ∷ 0x61 ∷ 0x62 ∷ 0x61 ∷ 0x78 ∷ [])
struct_as_pairs = refl

unit_as_empty_map : block (D.Unit U.EmptyMap ∷ []) V.unit ≡ Some (0xa0 ∷ [])
unit_as_empty_map = refl

-- ---- what is shown

abbrev pub table : List TypeDef → List Row
table ds = prelude ++ rows ds where
  rows : List TypeDef → List Row
  rows [] = []
  rows (d ∷ ds) = given [] d ∷ rows ds

abbrev pub top : Slot
top = plainly (number 8)

abbrev pub entry : List ℕ → Data → List (List ℕ × Data) → List (List ℕ × Data)
entry k d es = (k, d) ∷ es

-- an implicit value is shown
implicit_is_shown : shown (table (struct_of (record { name = codes "n"; at = 0; optional = false; slot = plainly (number 3); rename = None; implicit = Some (C.Int (pos 0)) } ∷ []) S.Map ∷ [])) top
    (V.struct (V.present (n 0) V.no_optionals)) ≡ map_data (entry (codes "n") (T.integer (pos 0)) [])
implicit_is_shown = refl

-- a union by its member's name
member_is_shown : shown (table (dot_or_box UF.Keyed)) top box
    ≡ map_data (entry (codes "Box") (map_data (entry (codes "h") (T.integer (pos 3)) (entry (codes "w") (T.integer (pos 2)) []))) [])
member_is_shown = refl

-- a pair map is shown in the key order
pairs_are_shown_in_order : shown (table (map_of 3 MF.ListPairs ∷ [])) top (pairs2 (codes "b") (n 1) (codes "a") (n 3)) ≡ map_data (entry (codes "a") (T.integer (pos 3)) (entry (codes "b") (T.integer (pos 1)) []))
pairs_are_shown_in_order = refl

-- ---- why there is no block

overlap_breaks : breaks_delimiter (table (joined_by (codes "aa"))) top (two (t (codes "a")) (t (codes "b"))) ≡ true
overlap_breaks = refl

entry_delimiter_breaks : breaks_delimiter (table q) top (pairs2 (codes "a") (t (codes "1&2")) (codes "b") (t [])) ≡ true
entry_delimiter_breaks = refl

inner_delimiter_is_no_break : breaks_delimiter (table q) top (pairs2 (codes "a") (t (codes "x=y")) (codes "b") (t [])) ≡ false
inner_delimiter_is_no_break = refl

hole_is_seen : has_hole (table tuple) top (V.struct (V.present (n 1) (V.absent (V.present (n 3) V.no_optionals)))) ≡ true
hole_is_seen = refl

-- ---- HAMTs, with a hash that begins with ba, and with one that is the key itself

abbrev hamt : List TypeDef
hamt = map_of 3 (MF.Hamt usual) ∷ []

abbrev pub hamt_block : (List ℕ → List ℕ) → Value → Option (List ℕ)
hamt_block h v = option_map spell (represented (whole h) (table hamt) top v)

empty_hamt : hamt_block (λ k. k) (V.map V.no_pairs)
    ≡ Some (0xa3 ∷ 0x64 ∷ codes "hamt" ++ (0x82 ∷ 0x58 ∷ 0x20 ∷ (replicate 32 0 ++ (0x80 ∷ 0x67 ∷ codes "hashAlg" ++ (0x12 ∷ 0x6a ∷ codes "bucketSize" ++ 0x03 ∷ [])))))
unfolding trie node_of
empty_hamt = refl

hamt_of_one : hamt_block (λ k. 0xba ∷ []) (V.map (V.pair (codes "abc") (n 1) V.no_pairs))
    ≡ Some (0xa3 ∷ 0x64 ∷ codes "hamt" ++ (0x82 ∷ 0x58 ∷ 0x20 ∷ (replicate 23 0 ++ (0x04 ∷ (replicate 8 0 ++ (0x81 ∷ 0x81 ∷ 0x82 ∷ 0x43 ∷ codes "abc" ++ (0x01 ∷ 0x67 ∷ codes "hashAlg" ++ (0x12 ∷ 0x6a ∷ codes "bucketSize" ++ 0x03 ∷ []))))))))
unfolding trie node_of
hamt_of_one = refl
