-- Small schemas, and why some data are none of their values.
use Rattle.std.specs.Prelude.{◌≡◌, ℕ, pos, Bool, true, false, List, [], ◌∷◌, ◌++◌, Some, None, codes, refl}
use Rattle.ild_data.specs.Data as T
use Rattle.ild_data.specs.Data.{Data}
use Rattle.ild_schema.specs.declared.number.Slot.{Slot}
use Rattle.ild_schema.specs.declared.def.TypeDef.{TypeDef}
use Rattle.ild_schema.specs.declared.def.TypeDef.TheVariants as D
use Rattle.ild_schema.specs.declared.def.UnitForm.TheVariants as U
use Rattle.ild_schema.specs.declared.def.MapForm.{MapForm}
use Rattle.ild_schema.specs.declared.def.MapForm.TheVariants as MF
use Rattle.ild_schema.specs.declared.def.StructForm.{StructForm}
use Rattle.ild_schema.specs.declared.def.StructForm.TheVariants as S
use Rattle.ild_schema.specs.declared.def.UnionForm.{UnionForm}
use Rattle.ild_schema.specs.declared.def.UnionForm.TheVariants as UF
use Rattle.ild_schema.specs.declared.def.EnumForm.TheVariants as E
use Rattle.ild_schema.specs.declared.def.Field.{Field}
use Rattle.ild_schema.specs.declared.def.Member.{Member}
use Rattle.ild_schema.specs.declared.def.EnumMember.{EnumMember}
use Rattle.ild_schema.specs.declared.def.Mark.TheVariants as M
use Rattle.ild_schema.specs.declared.def.Scalar.TheVariants as C
use Rattle.ild_schema.specs.Prelude.{prelude, given, number}
use Rattle.ild_schema.specs.declared.row.Row.{Row}
use Rattle.std.proofs.Common.{inl, inr, ap}
use Rattle.std.specs.Prelude.{is_some}
use Rattle.ild_data.specs.Key.{value_at}
use Rattle.ild_data.specs.TrieShape.{usual}
use Rattle.ild_typed.specs.Strings.{members_in, map_data}
use Rattle.ild_typed.specs.Named.{where_some}
use Rattle.ild_typed.specs.Pieces.{IsNoRoot, why_at}
use Rattle.ild_typed.specs.Layer as L
use Rattle.ild_typed.specs.Spots.{Step, item, key, under, element_spots}
use Rattle.ild_typed.specs.Ways.{found_at}
use Rattle.ild_typed.specs.Refused.{Refusal, RefusedPast, Refused}
use Rattle.ild_schema.specs.Slots.{plainly}
use Rattle.ild_typed.specs.Why as W
use Rattle.ild_typed.specs.Why.{Why}
use Rattle.ild_typed.specs.Causes.{why_of}

abbrev field : List ℕ → ℕ → Bool → Field
field name n optional = record { name = name; at = 0; optional = optional; slot = plainly (number n); rename = None; implicit = None }

abbrev struct_of : List Field → StructForm → TypeDef
struct_of fs form = D.Struct (record { fields = fs; form = form })

abbrev ab : StructForm → TypeDef
ab = struct_of (field (codes "a") 3 false ∷ field (codes "b") 3 false ∷ [])

abbrev maybe_ab : StructForm → TypeDef
maybe_ab = struct_of (field (codes "a") 3 true ∷ field (codes "b") 3 true ∷ [])

abbrev map_of : ℕ → MapForm → TypeDef
map_of n form = D.Map (number 7) 0 (plainly (number n)) 0 form

abbrev member : List ℕ → ℕ → List ℕ → Member
member name n mark = record { name = name; at = 0; ty = number n; mark = M.Text mark }

abbrev text : List ℕ → Data
text s = T.text s

abbrev int : ℕ → Data
int n = T.integer (pos n)

abbrev list : List Data → Data
list ds = T.list (T.items_of ds)

abbrev pair : List ℕ → ℕ → Data
pair k n = list (text k ∷ int n ∷ [])

abbrev entry : List ℕ → Data → List (List ℕ × Data) → List (List ℕ × Data)
entry k d es = (k, d) ∷ es

-- ---- structs as maps

abbrev with_implicit : TypeDef
with_implicit = struct_of (record { name = codes "n"; at = 0; optional = false; slot = plainly (number 3); rename = None; implicit = Some (C.Int (pos 0)) } ∷ []) S.Map

-- the block a1 61 6e 00
implicit_is_written : why_of with_implicit (map_data (entry (codes "n") (int 0) [])) ≡ Some W.Implicit
implicit_is_written = refl

implicit_is_left_out : why_of with_implicit (map_data []) ≡ None
implicit_is_left_out = refl

other_than_implicit : why_of with_implicit (map_data (entry (codes "n") (int 1) [])) ≡ None
other_than_implicit = refl

stranger : why_of (ab S.Map) (map_data (entry (codes "a") (int 1) (entry (codes "c") (int 2) []))) ≡ Some W.Name
stranger = refl

missing : why_of (ab S.Map) (map_data (entry (codes "a") (int 1) [])) ≡ Some W.Missing
missing = refl

whole_ab : why_of (ab S.Map) (map_data (entry (codes "a") (int 1) (entry (codes "b") (int 2) []))) ≡ None
whole_ab = refl

odd_kind : why_of (ab S.Map) (list []) ≡ Some W.Kind
odd_kind = refl

null_kind : why_of (ab S.Map) T.null ≡ Some W.Kind
null_kind = refl

-- ---- tuples

abbrev tuple : TypeDef
tuple = struct_of (field (codes "a") 3 false ∷ field (codes "b") 3 true ∷ field (codes "c") 3 true ∷ []) S.Tuple

-- the block 80
tuple_without_its_first : why_of tuple (list []) ≡ Some W.Count
tuple_without_its_first = refl

tuple_of_one : why_of tuple (list (int 1 ∷ [])) ≡ None
tuple_of_one = refl

tuple_of_four : why_of tuple (list (int 1 ∷ int 2 ∷ int 3 ∷ int 4 ∷ [])) ≡ Some W.Count
tuple_of_four = refl

-- ---- pairs

-- a name twice is Repeat, and names that fall are Order
twice : why_of (maybe_ab S.ListPairs) (list (pair (codes "a") 1 ∷ pair (codes "a") 1 ∷ [])) ≡ Some W.Repeat
twice = refl

falls : why_of (ab S.ListPairs) (list (pair (codes "b") 1 ∷ pair (codes "a") 1 ∷ [])) ≡ Some W.Order
falls = refl

in_order : why_of (ab S.ListPairs) (list (pair (codes "a") 1 ∷ pair (codes "b") 1 ∷ [])) ≡ None
in_order = refl

-- an empty pair has no name: the names of the others are asked first
empty_pair : why_of (ab S.ListPairs) (list (list [] ∷ pair (codes "a") 1 ∷ pair (codes "b") 1 ∷ [])) ≡ Some W.Count
empty_pair = refl

empty_pair_missing : why_of (ab S.ListPairs) (list (list [] ∷ pair (codes "a") 1 ∷ [])) ≡ Some W.Missing
empty_pair_missing = refl

empty_pair_name : why_of (ab S.ListPairs) (list (list [] ∷ pair (codes "c") 1 ∷ [])) ≡ Some W.Name
empty_pair_name = refl

-- the name of a pair of wrong length counts
long_pair : why_of (ab S.ListPairs) (list (list (text (codes "a") ∷ int 1 ∷ int 2 ∷ []) ∷ pair (codes "b") 1 ∷ [])) ≡ Some W.Count
long_pair = refl

odd_name : why_of (ab S.ListPairs) (list (list (int 1 ∷ int 1 ∷ []) ∷ [])) ≡ Some W.Kind
odd_name = refl

map_pairs_twice : why_of (map_of 3 MF.ListPairs) (list (pair (codes "a") 1 ∷ pair (codes "a") 1 ∷ [])) ≡ None
map_pairs_twice = refl

map_pairs_twice_at : why_at 2 (map_of 3 MF.ListPairs) (list (pair (codes "a") 1 ∷ pair (codes "a") 1 ∷ [])) ≡ Some W.Repeat
map_pairs_twice_at = refl

-- ---- texts

abbrev joined_by : List ℕ → TypeDef
joined_by delim = struct_of (field (codes "a") 7 false ∷ field (codes "b") 7 false ∷ []) (S.StringJoin delim)

two_parts : why_of (joined_by (codes ":")) (text (codes "x:y")) ≡ None
two_parts = refl

three_parts_of_two : why_of (joined_by (codes ":")) (text (codes "p:q:y")) ≡ Some W.Delimiter
three_parts_of_two = refl

delimiters_overlap : why_of (joined_by (codes "aa")) (text (codes "aaab")) ≡ Some W.Delimiter
delimiters_overlap = refl

empty_parts : why_of (joined_by (codes "aa")) (text (codes "aa")) ≡ None
empty_parts = refl

abbrev query : StructForm
query = S.StringPairs (codes "=") (codes "&")

query_whole : why_of (maybe_ab query) (text (codes "a=1&b=2")) ≡ None
query_whole = refl

query_empty : why_of (maybe_ab query) (text []) ≡ None
query_empty = refl

-- of a text without a split no name is asked
query_unsplit : why_of (ab query) (text (codes "c=1&b")) ≡ Some W.Delimiter
query_unsplit = refl

query_name : why_of (ab query) (text (codes "c=1&b=2")) ≡ Some W.Name
query_name = refl

query_missing : why_of (ab query) (text (codes "b=2")) ≡ Some W.Missing
query_missing = refl

query_order : why_of (ab query) (text (codes "b=2&a=1")) ≡ Some W.Order
query_order = refl

query_twice : why_of (ab query) (text (codes "a=2&b=1&b=1")) ≡ Some W.Repeat
query_twice = refl

-- ---- unions

abbrev union_of : UnionForm → TypeDef
union_of form = D.Union (record { members = member (codes "Dot") 9 (codes "dot") ∷ member (codes "Box") 10 (codes "box") ∷ []; form = form })

keyed_count : why_of (union_of UF.Keyed) (map_data []) ≡ Some W.Count
keyed_count = refl

keyed_member : why_of (union_of UF.Keyed) (map_data (entry (codes "Dot") T.null [])) ≡ Some W.Member
keyed_member = refl

keyed : why_of (union_of UF.Keyed) (map_data (entry (codes "dot") T.null [])) ≡ None
keyed = refl

abbrev envelope : TypeDef
envelope = union_of (UF.Envelope (codes "k") (codes "c"))

envelope_name : why_of envelope (map_data (entry (codes "c") T.null (entry (codes "x") T.null []))) ≡ Some W.Name
envelope_name = refl

envelope_missing : why_of envelope (map_data (entry (codes "c") T.null [])) ≡ Some W.Missing
envelope_missing = refl

-- a discriminant that is no text is that of no member
envelope_member : why_of envelope (map_data (entry (codes "c") T.null (entry (codes "k") (int 1) []))) ≡ Some W.Member
envelope_member = refl

inline_missing : why_of (union_of (UF.Inline (codes "k"))) (map_data []) ≡ Some W.Missing
inline_missing = refl

inline_member : why_of (union_of (UF.Inline (codes "k"))) (map_data (entry (codes "k") (text (codes "Dot")) [])) ≡ Some W.Member
inline_member = refl

prefix : why_of (union_of UF.StringPrefix) (text (codes "dog")) ≡ Some W.Prefix
prefix = refl

prefix_whole : why_of (union_of UF.StringPrefix) (text (codes "dot")) ≡ None
prefix_whole = refl

abbrev bytes_prefix : TypeDef
bytes_prefix = D.Union (record { members = member (codes "Raw") 2 (codes "01") ∷ []; form = UF.BytesPrefix })

bytes_behind_no_prefix : why_of bytes_prefix (T.bytes (0x01 ∷ 0xaa ∷ [])) ≡ None
bytes_behind_no_prefix = refl

bytes_behind_a_prefix : why_of bytes_prefix (T.bytes (0x02 ∷ [])) ≡ Some W.Prefix
bytes_behind_a_prefix = refl

-- ---- enums and units

abbrev enum_member : List ℕ → List ℕ → EnumMember
enum_member name s = record { name = name; at = 0; text = Some s }

abbrev no_or_yes : TypeDef
no_or_yes = D.Enum (record { members = enum_member (codes "No") (codes "0") ∷ enum_member (codes "Yes") (codes "1") ∷ []; form = E.Int })

-- the block 02
int_of_no_member : why_of no_or_yes (int 2) ≡ Some W.Member
int_of_no_member = refl

int_of_a_member : why_of no_or_yes (int 1) ≡ None
int_of_a_member = refl

unit_entries : why_of (D.Unit U.EmptyMap) (map_data (entry (codes "x") (int 1) [])) ≡ Some W.Count
unit_entries = refl

unit_truth : why_of (D.Unit U.True) (T.boolean false) ≡ Some W.Member
unit_truth = refl

unit_null : why_of (D.Unit U.Null) (T.boolean false) ≡ Some W.Kind
unit_null = refl

any_null : why_of D.Any T.null ≡ Some W.Kind
any_null = refl

-- ---- room and HAMTs

too_deep : why_at 1 (ab S.ListPairs) (list (pair (codes "a") 1 ∷ pair (codes "b") 1 ∷ [])) ≡ Some W.Depth
too_deep = refl

any_deep : why_at 1 D.Any (list (list [] ∷ [])) ≡ Some W.Depth
any_deep = refl

abbrev root : Data → Data → Data
root alg bucket = map_data (entry (codes "hashAlg") alg (entry (codes "bucketSize") bucket []))

-- an integer is told of before the form of the root, which here has no node
hash_alg : why_at 5 (map_of 3 (MF.Hamt usual)) (root (int 17) (int 2)) ≡ Some W.HashAlg
hash_alg = refl

bucket_size : why_at 5 (map_of 3 (MF.Hamt usual)) (root (int 18) (int 2)) ≡ Some W.BucketSize
bucket_size = refl

-- another kind of number is only no root
odd_number : why_at 5 (map_of 3 (MF.Hamt usual)) (root T.null (text [])) ≡ None
odd_number = refl

hamt_depth : why_at 4 (map_of 3 (MF.Hamt usual)) (root (int 17) (int 2)) ≡ Some W.Depth
hamt_depth = refl

-- ---- walks

abbrev table : List TypeDef → List Row
table ds = prelude ++ rows ds where
  rows : List TypeDef → List Row
  rows [] = []
  rows (d ∷ ds) = given [] d ∷ rows ds

abbrev top : Slot
top = plainly (number 8)

abbrev refusal : ℕ → Why → List Step → Refusal
refusal n w steps = record { ty = number n; why = w; at = steps }

-- a text in a list of integers
abbrev list_of_ints : List TypeDef
list_of_ints = D.List (plainly (number 3)) 0 ∷ []

walk_list : Refused (table list_of_ints) 2 top (list (text (codes "x") ∷ int 1 ∷ [])) (refusal 3 W.Kind (item 0 ∷ []))
unfolding RefusedPast
walk_list = (
  refl,
  D.List (plainly (number 3)) 0,
  refl,
  inr (
    refl,
    element_spots (plainly (number 3)) 0 (text (codes "x") ∷ int 1 ∷ []),
    (L.list (text (codes "x") ∷ int 1 ∷ []), refl, refl),
    inl (refusal 3 W.Kind [], (refl, D.Int, refl, inl (W.Kind, inl refl, refl)), refl),
  ),
)

-- a list that has no room for levels
walk_depth : Refused (table list_of_ints) 0 top (list []) (refusal 8 W.Depth [])
unfolding RefusedPast
walk_depth = (refl, D.List (plainly (number 3)) 0, refl, inl (W.Depth, inl refl, refl))

-- a union's member lacks a field: the struct is refused, under the discriminant
abbrev dot : List TypeDef
dot = D.Union (record { members = member (codes "Dot") 9 (codes "dot") ∷ []; form = UF.Keyed }) ∷ ab S.Map ∷ []

abbrev dot_data : Data
dot_data = map_data (entry (codes "dot") (map_data (entry (codes "a") (int 1) [])) [])

walk_union : Refused (table dot) 4 top dot_data (refusal 9 W.Missing (under (codes "dot") ∷ []))
unfolding RefusedPast
walk_union = (
  refl,
  _,
  refl,
  inr (
    refl,
    _,
    (L.union 0 (map_data (entry (codes "a") (int 1) [])), refl, refl),
    inl (refusal 9 W.Missing [], (refl, ab S.Map, refl, inl (W.Missing, inl refl, refl)), refl),
  ),
)

-- a key that is none of the key type: the key is refused, and told of at it
abbrev by_enum : List TypeDef
by_enum = D.Map (number 9) 0 (plainly (number 3)) 0 MF.Map ∷ D.Enum (record { members = enum_member (codes "A") (codes "a") ∷ []; form = E.Text }) ∷ []

walk_key : Refused (table by_enum) 4 top (map_data (entry (codes "b") (text []) [])) (refusal 9 W.Member (key (codes "b") ∷ []))
unfolding RefusedPast
walk_key = (
  refl,
  _,
  refl,
  inr (
    refl,
    _,
    (L.map (entry (codes "b") (text []) []), refl, refl),
    inl (refusal 9 W.Member [], (refl, _, refl, inl (W.Member, inl refl, refl)), refl),
  ),
)

-- a key that is a joined text without a split: Member too, of the key
abbrev by_join : List TypeDef
by_join = D.Map (number 9) 0 (plainly (number 3)) 0 MF.Map ∷ joined_by (codes ":") ∷ []

walk_joined_key : Refused (table by_join) 4 top (map_data (entry (codes "b") (text []) [])) (refusal 9 W.Member (key (codes "b") ∷ []))
unfolding RefusedPast
walk_joined_key = (
  refl,
  _,
  refl,
  inr (
    refl,
    _,
    (L.map (entry (codes "b") (text []) []), refl, refl),
    inl (refusal 9 W.Delimiter [], (refl, _, refl, inl (W.Delimiter, inl refl, refl)), refl),
  ),
)

-- ---- offsets

-- in a1 61 6e 00 the key stands at 1 and the value at 3
offset_key : found_at (key (codes "n") ∷ []) (map_data (entry (codes "n") (int 0) [])) ≡ Some (1, text (codes "n"))
offset_key = refl

offset_value : found_at (under (codes "n") ∷ []) (map_data (entry (codes "n") (int 0) [])) ≡ Some (3, int 0)
offset_value = refl

-- in 82 82 61 61 02 82 61 62 01 the value of the second pair stands at 8
offset_pair : found_at (item 1 ∷ item 1 ∷ []) (list (pair (codes "a") 2 ∷ pair (codes "b") 1 ∷ [])) ≡ Some (8, int 1)
offset_pair = refl

-- ---- renamed and implicit fields

-- null where a nullable implicit field stands is written
implicit_null : why_of with_implicit (map_data (entry (codes "n") T.null [])) ≡ None
implicit_null = refl

-- names in a block are the represented ones
abbrev crossed : TypeDef
crossed = struct_of
    (record { name = codes "a"; at = 0; optional = false; slot = plainly (number 3); rename = Some (codes "b"); implicit = None }
    ∷ record { name = codes "b"; at = 0; optional = true; slot = plainly (number 3); rename = Some (codes "c"); implicit = None } ∷ []) S.Map

renamed : why_of crossed (map_data (entry (codes "b") (int 1) [])) ≡ None
renamed = refl

not_renamed : why_of crossed (map_data (entry (codes "a") (int 1) [])) ≡ Some W.Name
not_renamed = refl

-- an implicit value in a text of pairs
query_implicit : why_of (struct_of (record { name = codes "a"; at = 0; optional = false; slot = plainly (number 7); rename = None; implicit = Some (C.Text (codes "x")) } ∷ []) query) (text (codes "a=x"))
    ≡ Some W.Implicit
query_implicit = refl

-- ---- data that are no root of a HAMT

has_node : Data → Bool
has_node t = where_some (λ ms. is_some (value_at (codes "hamt") ms)) (members_in t)

no_root : IsNoRoot usual (root T.null (text []))
unfolding has_node
no_root slots r = let e : false ≡ true = ap has_node r.tree in absurd cc

walk_trie : Refused (table (map_of 3 (MF.Hamt usual) ∷ [])) 5 top (root T.null (text [])) (refusal 8 W.Trie [])
unfolding RefusedPast
walk_trie = (refl, _, refl, inl (W.Trie, inr (refl, no_root, refl), refl))
