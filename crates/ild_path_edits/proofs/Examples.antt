-- The table of edits by example: each cell, with each holder, computes.
use Rattle.std.proofs.Common.{refl}
use Rattle.std.specs.Prelude.{◌≡◌, ℕ, pos, List, [], ◌∷◌, ◌++◌, codes, Bool, true, false, Option, Some, None, Result, Ok, Err}
use Rattle.ild_data.specs.Data as D
use Rattle.ild_data.specs.Data.{Data, items_of, members_of}
use Rattle.ild_data.specs.Key.{same_text}
use Rattle.ild_data.specs.TrieShape.{usual}
use Rattle.ild_schema.specs.declared.def.TypeDef.{TypeDef}
use Rattle.ild_schema.specs.declared.def.TypeDef.TheVariants as T
use Rattle.ild_schema.specs.declared.def.MapForm.TheVariants as M
use Rattle.ild_schema.specs.declared.def.StructForm.TheVariants as F
use Rattle.ild_schema.specs.declared.def.UnionForm.TheVariants as U
use Rattle.ild_schema.specs.declared.def.Mark.TheVariants as K
use Rattle.ild_schema.specs.declared.def.Scalar.{Scalar}
use Rattle.ild_schema.specs.declared.def.Scalar.TheVariants as S
use Rattle.ild_schema.specs.declared.def.Field.{Field}
use Rattle.ild_schema.specs.declared.def.Member.{Member}
use Rattle.ild_schema.specs.declared.number.Slot.{Slot}
use Rattle.ild_schema.specs.declared.row.Row.{Row}
use Rattle.ild_schema.specs.declared.row.Origin.TheVariants as O
use Rattle.ild_schema.specs.Prelude.{prelude, number}
use Rattle.ild_schema.specs.Slots.{plainly}
use Rattle.ild_schema.specs.Value.{Value, null, integer, text, list, map, struct, union, any, values_of, pairs_of, optionals_of}
use Rattle.ild_script.specs.declared.reply.No.{No}
use Rattle.ild_script.specs.declared.reply.No.TheVariants as N
use Rattle.std.specs.Fmt.{digits}
use Rattle.ild_typed.specs.Segment.{index_of}
use Rattle.ild_path_edits.specs.Table.{new_index}
use Rattle.ild_path_edits.specs.Edit.{Edit, set_at, ins_at, del_at, change, line_change}

-- the prelude and one type, which is number 8
abbrev schema : TypeDef → List Row
schema def = prelude ++ record { def = def; name = codes "N"; at = 0; origin = O.Declared } ∷ []

abbrev one_type : Slot
one_type = plainly (number 8)

-- all keys but `bad`
abbrev is_key : ℕ → List ℕ → Bool
is_key ty k = no (same_text k (codes "bad"))
  where
    no : Bool → Bool
    no true = false
    no false = true

abbrev n : ℕ → Value
n i = integer (pos i)

abbrev path : List ℕ → List (List ℕ)
path k = k ∷ []

-- edits of a value of the one type, with 3 as the new part
abbrev set : TypeDef → Value → List ℕ → Result Value No
set def v k = change (schema def) is_key (one_type, v) (set_at (path k) (n 3))

abbrev ins : TypeDef → Value → List ℕ → Result Value No
ins def v k = change (schema def) is_key (one_type, v) (ins_at (path k) (n 3))

abbrev del : TypeDef → Value → List ℕ → Result Value No
del def v k = change (schema def) is_key (one_type, v) (del_at (path k))

abbrev map_of : List (List ℕ × Value) → Value
map_of ps = map (pairs_of ps)

abbrev struct_of : List (Option Value) → Value
struct_of os = struct (optionals_of os)

abbrev list_of : List Value → Value
list_of vs = list (values_of vs)

abbrev plain_map : TypeDef
plain_map = T.Map (number 7) 0 (plainly (number 3)) 0 M.Map

abbrev pair_map : TypeDef
pair_map = T.Map (number 7) 0 (plainly (number 3)) 0 M.ListPairs

abbrev hamt_map : TypeDef
hamt_map = T.Map (number 7) 0 (plainly (number 3)) 0 (M.Hamt usual)

abbrev field : List ℕ → Bool → Option Scalar → Field
field name optional implicit = record { name = name; at = 0; optional = optional; slot = plainly (number 3); rename = None; implicit = implicit }

abbrev tuple : TypeDef
tuple = T.Struct (record { fields = field (codes "a") false None ∷ field (codes "b") true None ∷ field (codes "c") true None ∷ []; form = F.Tuple })

abbrev counter : TypeDef
counter = T.Struct (record { fields = field (codes "n") false (Some (S.Int (pos 0))) ∷ []; form = F.Map })

abbrev member : List ℕ → ℕ → Member
member name ty = record { name = name; at = 0; ty = number ty; mark = K.Bare }

abbrev either : TypeDef
either = T.Union (record { members = member (codes "Int") 3 ∷ member (codes "String") 7 ∷ []; form = U.Keyed })

abbrev numbers : TypeDef
numbers = T.List (plainly (number 3)) 0

-- ---- the whole value

root_set : change (schema numbers) is_key (one_type, list_of []) (set_at [] (list_of (n 1 ∷ []))) ≡ Ok (list_of (n 1 ∷ []))
root_set = refl

root_ins : change (schema numbers) is_key (one_type, list_of []) (ins_at [] (list_of [])) ≡ Err N.Path
root_ins = refl

root_del : change (schema numbers) is_key (one_type, list_of []) (del_at []) ≡ Err N.Mismatch
root_del = refl

-- ---- a struct; a hole is left to the judgement of the whole value

abbrev short : Value
short = struct_of (Some (n 1) ∷ None ∷ None ∷ [])

abbrev full : Value
full = struct_of (Some (n 1) ∷ Some (n 2) ∷ Some (n 3) ∷ [])

field_set : set tuple short (codes "a") ≡ Ok (struct_of (Some (n 3) ∷ None ∷ None ∷ []))
field_set = refl

field_set_absent : set tuple short (codes "c") ≡ Ok (struct_of (Some (n 1) ∷ None ∷ Some (n 3) ∷ []))
field_set_absent = refl

field_set_unknown : set tuple short (codes "d") ≡ Err N.Path
field_set_unknown = refl

field_ins : ins tuple short (codes "b") ≡ Ok (struct_of (Some (n 1) ∷ Some (n 3) ∷ None ∷ []))
field_ins = refl

field_ins_there : ins tuple full (codes "b") ≡ Err N.Path
field_ins_there = refl

field_ins_required : ins tuple short (codes "a") ≡ Err N.Path
field_ins_required = refl

field_ins_unknown : ins tuple short (codes "d") ≡ Err N.Path
field_ins_unknown = refl

field_del : del tuple full (codes "b") ≡ Ok (struct_of (Some (n 1) ∷ None ∷ Some (n 3) ∷ []))
field_del = refl

field_del_required : del tuple full (codes "a") ≡ Err N.Mismatch
field_del_required = refl

field_del_absent : del tuple short (codes "b") ≡ Err N.Path
field_del_absent = refl

field_del_unknown : del tuple short (codes "d") ≡ Err N.Path
field_del_unknown = refl

field_del_implicit : del counter (struct_of (Some (n 0) ∷ [])) (codes "n") ≡ Err N.Mismatch
field_del_implicit = refl

-- ---- a map; one whose pairs keep their order, and a HAMT

abbrev one_entry : Value
one_entry = map_of ((codes "b", n 2) ∷ [])

map_set : set plain_map one_entry (codes "b") ≡ Ok (map_of ((codes "b", n 3) ∷ []))
map_set = refl

map_set_new : set plain_map one_entry (codes "a") ≡ Ok (map_of ((codes "a", n 3) ∷ (codes "b", n 2) ∷ []))
map_set_new = refl

map_set_bad : set plain_map one_entry (codes "bad") ≡ Err N.Mismatch
map_set_bad = refl

map_ins : ins plain_map one_entry (codes "a") ≡ Ok (map_of ((codes "a", n 3) ∷ (codes "b", n 2) ∷ []))
map_ins = refl

map_ins_there : ins plain_map one_entry (codes "b") ≡ Err N.Path
map_ins_there = refl

map_ins_bad : ins plain_map one_entry (codes "bad") ≡ Err N.Mismatch
map_ins_bad = refl

map_del : del plain_map one_entry (codes "b") ≡ Ok (map_of [])
map_del = refl

map_del_absent : del plain_map one_entry (codes "bad") ≡ Err N.Path
map_del_absent = refl

pairs_set : set pair_map (map_of ((codes "b", n 1) ∷ (codes "a", n 2) ∷ [])) (codes "b") ≡ Ok (map_of ((codes "b", n 3) ∷ (codes "a", n 2) ∷ []))
pairs_set = refl

pairs_set_new : set pair_map (map_of ((codes "b", n 1) ∷ [])) (codes "a") ≡ Ok (map_of ((codes "b", n 1) ∷ (codes "a", n 3) ∷ []))
pairs_set_new = refl

pairs_ins : ins pair_map (map_of ((codes "b", n 1) ∷ [])) (codes "a") ≡ Ok (map_of ((codes "b", n 1) ∷ (codes "a", n 3) ∷ []))
pairs_ins = refl

pairs_del : del pair_map (map_of ((codes "b", n 1) ∷ (codes "a", n 2) ∷ [])) (codes "b") ≡ Ok (map_of ((codes "a", n 2) ∷ []))
pairs_del = refl

hamt_set : set hamt_map one_entry (codes "a") ≡ Ok (map_of ((codes "a", n 3) ∷ (codes "b", n 2) ∷ []))
hamt_set = refl

hamt_of_abc : Value
hamt_of_abc = map_of ((codes "abc", n 1) ∷ [])

hamt_set_again : change (schema hamt_map) is_key (one_type, hamt_of_abc) (set_at (path (codes "abc")) (n 1)) ≡ Ok hamt_of_abc
unfolding hamt_of_abc
hamt_set_again = refl

hamt_del_missing : del hamt_map hamt_of_abc (codes "x") ≡ Err N.Path
unfolding hamt_of_abc
hamt_del_missing = refl

-- ---- a list: indices without leading zeros, and `-` for the end

abbrev two : Value
two = list_of (n 1 ∷ n 2 ∷ [])

list_set : set numbers two (codes "1") ≡ Ok (list_of (n 1 ∷ n 3 ∷ []))
unfolding index_of new_index digits
list_set = refl

list_set_past : set numbers two (codes "2") ≡ Err N.Path
unfolding index_of new_index digits
list_set_past = refl

list_set_zeros : set numbers two (codes "00") ≡ Err N.Path
unfolding index_of new_index digits
list_set_zeros = refl

list_set_end : set numbers two (codes "-") ≡ Err N.Path
unfolding index_of new_index digits
list_set_end = refl

list_ins : ins numbers two (codes "1") ≡ Ok (list_of (n 1 ∷ n 3 ∷ n 2 ∷ []))
unfolding index_of new_index digits
list_ins = refl

list_ins_last : ins numbers two (codes "2") ≡ Ok (list_of (n 1 ∷ n 2 ∷ n 3 ∷ []))
unfolding index_of new_index digits
list_ins_last = refl

list_ins_end : ins numbers two (codes "-") ≡ Ok (list_of (n 1 ∷ n 2 ∷ n 3 ∷ []))
unfolding index_of new_index digits
list_ins_end = refl

list_ins_past : ins numbers two (codes "3") ≡ Err N.Path
unfolding index_of new_index digits
list_ins_past = refl

list_del : del numbers two (codes "0") ≡ Ok (list_of (n 2 ∷ []))
unfolding index_of new_index digits
list_del = refl

list_del_past : del numbers two (codes "2") ≡ Err N.Path
unfolding index_of new_index digits
list_del_past = refl

-- ---- a union: another member takes the place of the held one

union_set : set either (union 0 (n 1)) (codes "Int") ≡ Ok (union 0 (n 3))
union_set = refl

union_set_other : set either (union 1 (text (codes "x"))) (codes "Int") ≡ Ok (union 0 (n 3))
union_set_other = refl

union_set_unknown : set either (union 0 (n 1)) (codes "Bool") ≡ Err N.Path
union_set_unknown = refl

union_ins : ins either (union 0 (n 1)) (codes "String") ≡ Err N.Path
union_ins = refl

union_del : del either (union 0 (n 1)) (codes "Int") ≡ Err N.Mismatch
union_del = refl

union_del_other : del either (union 0 (n 1)) (codes "String") ≡ Err N.Path
union_del_other = refl

-- a longer path through a member that isn't held
union_through : change (schema either) is_key (one_type, union 0 (n 1)) (set_at (codes "String" ∷ codes "x" ∷ []) (n 3)) ≡ Err N.Path
union_through = refl

-- ---- inside an Any, null too

abbrev an_any : List (List ℕ × Data) → Value
an_any ms = any (D.map (members_of ms))

abbrev a_list : List Data → Value
a_list ds = any (D.list (items_of ds))

abbrev i : ℕ → Data
i k = D.integer (pos k)

any_set : change (schema T.Any) is_key (one_type, an_any ((codes "a", i 1) ∷ [])) (set_at (path (codes "a")) null) ≡ Ok (an_any ((codes "a", D.null) ∷ []))
any_set = refl

any_set_new : change (schema T.Any) is_key (one_type, an_any ((codes "a", i 1) ∷ [])) (set_at (path (codes "bad")) (any (i 3))) ≡ Ok (an_any ((codes "a", i 1) ∷ (codes "bad", i 3) ∷ []))
any_set_new = refl

any_ins : change (schema T.Any) is_key (one_type, an_any []) (ins_at (path (codes "-")) (any (i 3))) ≡ Ok (an_any ((codes "-", i 3) ∷ []))
any_ins = refl

any_ins_there : ins T.Any (an_any ((codes "a", i 1) ∷ [])) (codes "a") ≡ Err N.Path
any_ins_there = refl

any_del : del T.Any (an_any ((codes "a", i 1) ∷ [])) (codes "a") ≡ Ok (an_any [])
any_del = refl

any_del_absent : del T.Any (an_any []) (codes "a") ≡ Err N.Path
any_del_absent = refl

items_set : change (schema T.Any) is_key (one_type, a_list (i 1 ∷ i 2 ∷ [])) (set_at (path (codes "1")) (any (i 3))) ≡ Ok (a_list (i 1 ∷ i 3 ∷ []))
unfolding index_of new_index digits
items_set = refl

items_set_past : set T.Any (a_list (i 1 ∷ [])) (codes "1") ≡ Err N.Path
unfolding index_of new_index digits
items_set_past = refl

items_ins : change (schema T.Any) is_key (one_type, a_list (i 1 ∷ [])) (ins_at (path (codes "-")) (any (i 3))) ≡ Ok (a_list (i 1 ∷ i 3 ∷ []))
unfolding index_of new_index digits
items_ins = refl

items_ins_past : ins T.Any (a_list (i 1 ∷ [])) (codes "2") ≡ Err N.Path
unfolding index_of new_index digits
items_ins_past = refl

items_del : del T.Any (a_list (i 1 ∷ i 2 ∷ [])) (codes "0") ≡ Ok (a_list (i 2 ∷ []))
unfolding index_of new_index digits
items_del = refl

items_del_past : del T.Any (a_list (i 1 ∷ [])) (codes "1") ≡ Err N.Path
unfolding index_of new_index digits
items_del_past = refl

-- ---- what has no parts

nothing_set : set T.Int (n 1) (codes "a") ≡ Err N.Path
nothing_set = refl

nothing_ins : ins T.Int (n 1) (codes "a") ≡ Err N.Path
nothing_ins = refl

nothing_del : del T.Int (n 1) (codes "a") ≡ Err N.Path
nothing_del = refl

-- ---- lines: path, then json, then mismatch

-- of all json texts, the empty one can't be read, and each other is 3
abbrev read : List ℕ → Option Data
read [] = None
read (b ∷ bs) = Some (i 3)

abbrev line : TypeDef → Value → Edit (List ℕ) → Result Value No
line def v e = line_change (schema def) is_key read (one_type, v) e

line_set : line plain_map one_entry (set_at (path (codes "a")) (codes "3")) ≡ Ok (map_of ((codes "a", n 3) ∷ (codes "b", n 2) ∷ []))
line_set = refl

line_path_first : line plain_map one_entry (ins_at (path (codes "b")) []) ≡ Err N.Path
line_path_first = refl

line_json_first : line plain_map one_entry (set_at (path (codes "bad")) []) ≡ Err N.Json
line_json_first = refl

line_mismatch : line plain_map one_entry (set_at (path (codes "bad")) (codes "3")) ≡ Err N.Mismatch
line_mismatch = refl

line_of_type : line either (union 0 (n 1)) (set_at (path (codes "String")) (codes "3")) ≡ Err N.Mismatch
line_of_type = refl

line_root_ins : line plain_map one_entry (ins_at [] []) ≡ Err N.Path
line_root_ins = refl

line_root_del : line plain_map one_entry (del_at []) ≡ Err N.Mismatch
line_root_del = refl
