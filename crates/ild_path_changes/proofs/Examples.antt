-- Where edits are seen in the data of a value, by example, whatever stands for a HAMT.
use Rattle.std.proofs.Common.{refl}
use Rattle.std.specs.Prelude.{◌≡◌, ℕ, pos, List, [], ◌∷◌, ◌++◌, codes, Bool, true, false, Option, Some, None}
use Rattle.std.specs.Fmt.{digits}
use Rattle.ild_data.specs.Data as D
use Rattle.ild_data.specs.Data.{Data, items_of, members_of}
use Rattle.ild_schema.specs.declared.def.TypeDef.{TypeDef}
use Rattle.ild_schema.specs.declared.def.TypeDef.TheVariants as T
use Rattle.ild_schema.specs.declared.def.MapForm.{MapForm}
use Rattle.ild_schema.specs.declared.def.MapForm.TheVariants as M
use Rattle.ild_schema.specs.declared.def.StructForm.TheVariants as F
use Rattle.ild_schema.specs.declared.def.Scalar.{Scalar}
use Rattle.ild_schema.specs.declared.def.Scalar.TheVariants as S
use Rattle.ild_schema.specs.declared.def.Field.{Field}
use Rattle.ild_schema.specs.declared.row.Row.{Row}
use Rattle.ild_schema.specs.declared.row.Origin.TheVariants as O
use Rattle.ild_schema.specs.Prelude.{prelude, number}
use Rattle.ild_schema.specs.Slots.{plainly}
use Rattle.ild_schema.specs.Value.{Value, integer, list, map, struct, any, values_of, pairs_of, optionals_of}
use Rattle.ild_splice_changes.specs.TreeChange.{nth, key, replace, insert_item, insert_entry, remove_item, remove_entry, Located, unchanged, one}
use Rattle.ild_typed.specs.Composed.{Hamts}
use Rattle.ild_typed.specs.Segment.{index_of}
use Rattle.ild_typed.specs.Strings.{pair_data}
use Rattle.ild_path_edits.specs.Edit.{Edit, set_at, ins_at, del_at}
use Rattle.ild_path_edits.specs.Table.{new_index}
use Rattle.ild_path_changes.specs.LiftLaws.{edit_seen}

-- the prelude and one type, which is number 8
abbrev schema : TypeDef → List Row
schema def = prelude ++ record { def = def; name = codes "N"; at = 0; origin = O.Declared } ∷ []

-- where an edit of a value of the one type is seen
abbrev seen : Hamts → TypeDef → Value → Edit Value → Located
seen hamts def v e = edit_seen hamts (schema def) (plainly (number 8), v) e

abbrev n : ℕ → Value
n i = integer (pos i)

abbrev i : ℕ → Data
i k = D.integer (pos k)

abbrev path : List ℕ → List (List ℕ)
path k = k ∷ []

abbrev map_of : List (List ℕ × Value) → Value
map_of ps = map (pairs_of ps)

abbrev struct_of : List (Option Value) → Value
struct_of os = struct (optionals_of os)

abbrev list_of : List Value → Value
list_of vs = list (values_of vs)

abbrev a_map : MapForm → TypeDef
a_map form = T.Map (number 7) 0 (plainly (number 3)) 0 form

abbrev field : List ℕ → Bool → Option Scalar → Field
field name optional implicit = record { name = name; at = 0; optional = optional; slot = plainly (number 3); rename = None; implicit = implicit }

abbrev tuple : TypeDef
tuple = T.Struct (record { fields = field (codes "a") false None ∷ field (codes "b") true None ∷ field (codes "c") true None ∷ []; form = F.Tuple })

abbrev pair_struct : TypeDef
pair_struct = T.Struct (record { fields = field (codes "a") false (Some (S.Int (pos 0))) ∷ field (codes "b") false None ∷ []; form = F.ListPairs })

-- a map of lists: type 8 is the map, type 9 the lists
abbrev nested : MapForm → List Row
nested form =
    prelude ++ record { def = T.Map (number 7) 0 (plainly (number 9)) 0 form; name = codes "N"; at = 0; origin = O.Declared }
    ∷ record { def = T.List (plainly (number 3)) 0; name = []; at = 0; origin = O.Inline } ∷ []

abbrev two_lists : Value
two_lists = map_of ((codes "a", list_of (n 1 ∷ [])) ∷ (codes "b", list_of (n 1 ∷ n 2 ∷ [])) ∷ [])

-- ---- through the holders of a path

in_map : (hamts : Hamts) → edit_seen hamts (nested M.Map) (plainly (number 8), two_lists) (set_at (codes "b" ∷ codes "1" ∷ []) (n 3)) ≡ one (key (codes "b") ∷ nth 1 ∷ []) (replace (i 3))
unfolding index_of digits
in_map hamts = refl

in_pairs : (hamts : Hamts) → edit_seen hamts (nested M.ListPairs) (plainly (number 8), two_lists) (set_at (codes "b" ∷ codes "1" ∷ []) (n 3)) ≡ one (nth 1 ∷ nth 1 ∷ nth 1 ∷ []) (replace (i 3))
unfolding index_of digits
in_pairs hamts = refl

inserted_below : (hamts : Hamts) → edit_seen hamts (nested M.Map) (plainly (number 8), two_lists) (ins_at (codes "a" ∷ codes "-" ∷ []) (n 3)) ≡ one (key (codes "a") ∷ []) (insert_item 1 (i 3))
unfolding index_of new_index digits
inserted_below hamts = refl

deleted_below : (hamts : Hamts) → edit_seen hamts (nested M.Map) (plainly (number 8), two_lists) (del_at (codes "b" ∷ codes "0" ∷ [])) ≡ one (key (codes "b") ∷ []) (remove_item 0)
unfolding index_of digits
deleted_below hamts = refl

-- ---- in the last holder

new_entry : (hamts : Hamts) → seen hamts (a_map M.Map) (map_of ((codes "a", n 1) ∷ [])) (set_at (path (codes "c")) (n 3)) ≡ one [] (insert_entry (codes "c") (i 3))
new_entry hamts = refl

gone_entry : (hamts : Hamts) → seen hamts (a_map M.Map) (map_of ((codes "a", n 1) ∷ [])) (del_at (path (codes "a"))) ≡ one [] (remove_entry (codes "a"))
gone_entry hamts = refl

new_pair : (hamts : Hamts) → seen hamts (a_map M.ListPairs) (map_of ((codes "b", n 1) ∷ [])) (ins_at (path (codes "a")) (n 3)) ≡ one [] (insert_item 1 (pair_data (codes "a", i 3)))
new_pair hamts = refl

tuple_item : (hamts : Hamts) → seen hamts tuple (struct_of (Some (n 1) ∷ Some (n 2) ∷ None ∷ [])) (set_at (path (codes "b")) (n 3)) ≡ one (nth 1 ∷ []) (replace (i 3))
tuple_item hamts = refl

tuple_last : (hamts : Hamts) → seen hamts tuple (struct_of (Some (n 1) ∷ None ∷ None ∷ [])) (set_at (path (codes "b")) (n 3)) ≡ one [] (insert_item 1 (i 3))
tuple_last hamts = refl

-- a field whose implicit value is left out comes, goes, or stays away
implicit_comes : (hamts : Hamts) → seen hamts pair_struct (struct_of (Some (n 0) ∷ Some (n 2) ∷ [])) (set_at (path (codes "a")) (n 3)) ≡ one [] (insert_item 0 (pair_data (codes "a", i 3)))
implicit_comes hamts = refl

implicit_goes : (hamts : Hamts) → seen hamts pair_struct (struct_of (Some (n 1) ∷ Some (n 2) ∷ [])) (set_at (path (codes "a")) (n 0)) ≡ one [] (remove_item 0)
implicit_goes hamts = refl

implicit_stays : (hamts : Hamts) → seen hamts pair_struct (struct_of (Some (n 0) ∷ Some (n 2) ∷ [])) (set_at (path (codes "a")) (n 0)) ≡ unchanged
implicit_stays hamts = refl

-- the pair behind one that is left out is the first
behind_left_out : (hamts : Hamts) → seen hamts pair_struct (struct_of (Some (n 0) ∷ Some (n 2) ∷ [])) (set_at (path (codes "b")) (n 3)) ≡ one (nth 0 ∷ nth 1 ∷ []) (replace (i 3))
behind_left_out hamts = refl

inside_any : (hamts : Hamts) → seen hamts T.Any (any (D.map (members_of ((codes "x", D.list (items_of (i 1 ∷ D.null ∷ []))) ∷ [])))) (set_at (codes "x" ∷ codes "0" ∷ []) (any (i 3))) ≡ one (key (codes "x") ∷ nth 0 ∷ []) (replace (i 3))
unfolding index_of digits
inside_any hamts = refl
