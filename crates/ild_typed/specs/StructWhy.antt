-- Why data are no layer of a struct (IPLD Schemas, "Struct Representation Strategies"): each cause by itself.
use Rattle.std.specs.Prelude.{ℕ, zero, suc, Bool, false, ◌&&◌, ◌||◌, not, cond, nat_eq, nat_lt, is_none, List, [], ◌∷◌, length, map, drop, Option, None, option_map}
use Rattle.std.specs.List.{list_any}
use Rattle.ild_data.specs.Data as T
use Rattle.ild_data.specs.Data.{Data}
use Rattle.ild_data.specs.Key.{same_text}
use Rattle.ild_schema.specs.declared.def.StructForm.{StructForm}
use Rattle.ild_schema.specs.declared.def.StructForm.TheVariants as S
use Rattle.ild_schema.specs.declared.def.Field.{Field}
use Rattle.ild_typed.specs.Fields.{is_implicit}
use Rattle.ild_schema.specs.Marks.{field_text}
use Rattle.ild_typed.specs.Strings.{members_in}
use Rattle.ild_typed.specs.Cuts.{parted, is_split}
use Rattle.ild_typed.specs.Named.{items_in, where_some, has_odd_pair, has_odd_count, pair_names, pair_entries, split_entries, is_unsplit, names, is_among, has_twice}

-- the names that the data show, where the form has names and the data are of it
abbrev pub names_in : StructForm → Data → Option (List (List ℕ))
names_in S.Map t = option_map names (members_in t)
names_in S.Tuple t = None
names_in S.ListPairs t = option_map pair_names (items_in t)
names_in (S.StringPairs inner entry) t = option_map names (split_entries inner entry t)
names_in (S.StringJoin delim) t = None

-- those with values
abbrev pub entries_in : StructForm → Data → Option (List (List ℕ × Data))
entries_in S.Map t = members_in t
entries_in S.Tuple t = None
entries_in S.ListPairs t = option_map pair_entries (items_in t)
entries_in (S.StringPairs inner entry) t = split_entries inner entry t
entries_in (S.StringJoin delim) t = None

abbrev pub is_name_of : List ℕ → Field → Bool
is_name_of k f = same_text (field_text f) k

-- a name is no field's
abbrev pub has_stranger : List Field → List (List ℕ) → Bool
has_stranger fs ks = list_any (λ k. not (list_any (is_name_of k) fs)) ks

-- a field that must be written is not
abbrev pub must_stand : Field → Bool
must_stand f = not f.optional && is_none f.implicit

abbrev pub lacks_field : List Field → List (List ℕ) → Bool
lacks_field fs ks = list_any (λ f. must_stand f && not (is_among (field_text f) ks)) fs

-- a field's place by its name
abbrev pub place_of : List Field → List ℕ → ℕ
place_of [] k = zero
place_of (f ∷ fs) k = cond (is_name_of k f) zero (suc (place_of fs k))

-- a place stands before a lesser one
abbrev pub has_fall : List ℕ → Bool
has_fall [] = false
has_fall (n ∷ ns) = list_any (λ m. nat_lt m n) ns || has_fall ns

abbrev pub is_out_of_order : List Field → List (List ℕ) → Bool
is_out_of_order fs ks = has_fall (map (place_of fs) ks)

-- an implicit value is written
abbrev pub is_needless : List Field → List ℕ × Data → Bool
is_needless fs e = list_any (λ f. is_name_of e.0 f && is_implicit f.implicit e.1) fs

abbrev pub writes_implicit : List Field → List (List ℕ × Data) → Bool
writes_implicit fs es = list_any (is_needless fs) es

-- there are more items than fields, or a field behind the last item must be there
abbrev pub misses_items : List Field → List Data → Bool
misses_items fs ds = nat_lt (length fs) (length ds) || list_any (λ f. not f.optional) (drop (length ds) fs)

-- ---- each cause, form by form

abbrev pub struct_kind_why : StructForm → Data → Bool
struct_kind_why S.ListPairs t = has_odd_pair t
struct_kind_why form t = false

abbrev pub struct_name_why : StructForm → List Field → Data → Bool
struct_name_why form fs t = where_some (has_stranger fs) (names_in form t)

abbrev pub struct_missing : StructForm → List Field → Data → Bool
struct_missing form fs t = where_some (lacks_field fs) (names_in form t)

abbrev pub struct_count : StructForm → List Field → Data → Bool
struct_count S.Tuple fs t = where_some (misses_items fs) (items_in t)
struct_count S.ListPairs fs t = has_odd_count t
struct_count form fs t = false

abbrev pub struct_order : StructForm → List Field → Data → Bool
struct_order S.Map fs t = false
struct_order form fs t = where_some (is_out_of_order fs) (names_in form t)

abbrev pub struct_repeat : StructForm → Data → Bool
struct_repeat form t = where_some has_twice (names_in form t)

abbrev pub struct_implicit : StructForm → List Field → Data → Bool
struct_implicit form fs t = where_some (writes_implicit fs) (entries_in form t)

-- no split into a part for each field
abbrev pub is_unjoined : List ℕ → ℕ → Data → Bool
is_unjoined delim n (T.text s) = not (is_split delim s && nat_eq (length (parted delim s)) n)
is_unjoined delim n d = false

abbrev pub struct_delimiter : StructForm → List Field → Data → Bool
struct_delimiter (S.StringPairs inner entry) fs t = is_unsplit inner entry t
struct_delimiter (S.StringJoin delim) fs t = is_unjoined delim (length fs) t
struct_delimiter form fs t = false
