-- Shown forms, what they mean, and the rules that are broken, by example.
use Rattle.std.proofs.Common.{refl}
use Rattle.std.specs.Prelude.{◌≡◌, ℕ, pos, List, [], ◌∷◌, ◌++◌, codes, Bool, true, false, Option, Some, None}
use Rattle.ild_data.specs.Data as D
use Rattle.ild_data.specs.Data.{Data, items_of, members_of}
use Rattle.ild_data.specs.Key.{same_text}
use Rattle.ild_schema.specs.declared.def.TypeDef.{TypeDef}
use Rattle.ild_schema.specs.declared.def.TypeDef.TheVariants as T
use Rattle.ild_schema.specs.declared.def.UnitForm.TheVariants as N
use Rattle.ild_schema.specs.declared.def.MapForm.TheVariants as M
use Rattle.ild_schema.specs.declared.def.StructForm.TheVariants as F
use Rattle.ild_schema.specs.declared.def.UnionForm.TheVariants as U
use Rattle.ild_schema.specs.declared.def.EnumForm.TheVariants as E
use Rattle.ild_schema.specs.declared.def.Mark.TheVariants as K
use Rattle.ild_schema.specs.declared.def.Scalar.{Scalar}
use Rattle.ild_schema.specs.declared.def.Scalar.TheVariants as S
use Rattle.ild_schema.specs.declared.def.Field.{Field}
use Rattle.ild_schema.specs.declared.number.Slot.{Slot}
use Rattle.ild_schema.specs.declared.row.Row.{Row}
use Rattle.ild_schema.specs.declared.row.Origin.TheVariants as O
use Rattle.ild_schema.specs.Prelude.{prelude, number, anything}
use Rattle.ild_schema.specs.Slots.{plainly}
use Rattle.ild_schema.specs.Value.{Value, null, integer, text, map, struct, union, enum, unit, pairs_of, optionals_of}
use Rattle.ild_typed.specs.Shown.{shown}
use Rattle.ild_value_meaning.specs.MeantRead.{meant}
use Rattle.ild_value_meaning.specs.Mismatch.{Rule, Kind, Name, Missing, Member as MemberRule, Key, breaks, part_by_numbers}

-- the prelude and one type, which is number 8
abbrev schema : TypeDef → List Row
schema def = prelude ++ record { def = def; name = codes "N"; at = 0; origin = O.Declared } ∷ []

abbrev one_type : Slot
one_type = plainly (number 8)

-- all keys but `bad`
abbrev is_key : ℕ → List ℕ → Bool
is_key ty k = no (same_text k (codes "bad"))
  where
    no : Bool → Bool
    no true = false
    no false = true

abbrev means : TypeDef → Data → Option Value
means def d = meant (schema def) is_key one_type d

-- whether the data break a rule, their parts apart
abbrev broken : TypeDef → Data → Rule → Bool
broken def d r = breaks (schema def) is_key one_type d r

abbrev n : ℕ → Value
n i = integer (pos i)

abbrev i : ℕ → Data
i k = D.integer (pos k)

abbrev data_map : List (List ℕ × Data) → Data
data_map ms = D.map (members_of ms)

abbrev pair_map : TypeDef
pair_map = T.Map (number 7) 0 (plainly (number 3)) 0 M.ListPairs

abbrev field : List ℕ → Bool → Option Scalar → Field
field name optional implicit = record { name = name; at = 0; optional = optional; slot = plainly (number 3); rename = Some (codes "renamed"); implicit = implicit }

abbrev counter : TypeDef
counter = T.Struct (record { fields = field (codes "n") false (Some (S.Int (pos 0))) ∷ []; form = F.Map })

abbrev point : TypeDef
point = T.Struct (record { fields = field (codes "x") false None ∷ field (codes "y") true None ∷ []; form = F.Tuple })

abbrev either : TypeDef
either = T.Union (record {
  members = record { name = codes "Int"; at = 0; ty = number 3; mark = K.Text (codes "i") } ∷ record { name = codes "String"; at = 0; ty = number 7; mark = K.Text (codes "s") } ∷ [];
  form = U.Keyed;
})

abbrev role : TypeDef
role = T.Enum (record { members = record { name = codes "Admin"; at = 0; text = Some (codes "a") } ∷ record { name = codes "Guest"; at = 0; text = Some (codes "g") } ∷ []; form = E.Text })

-- ---- pairs are shown, and taken, with rising keys

pairs_shown : shown (schema pair_map) one_type (map (pairs_of ((codes "b", n 1) ∷ (codes "a", n 3) ∷ []))) ≡ data_map ((codes "a", i 3) ∷ (codes "b", i 1) ∷ [])
pairs_shown = refl

pairs_meant : means pair_map (data_map ((codes "a", i 3) ∷ (codes "b", i 1) ∷ [])) ≡ Some (map (pairs_of ((codes "a", n 3) ∷ (codes "b", n 1) ∷ [])))
pairs_meant = refl

-- ---- fields by their names, and an implicit one left out or not

implicit_left_out : means counter (data_map []) ≡ Some (struct (optionals_of (Some (n 0) ∷ [])))
implicit_left_out = refl

implicit_written : means counter (data_map ((codes "n", i 0) ∷ [])) ≡ Some (struct (optionals_of (Some (n 0) ∷ [])))
implicit_written = refl

implicit_shown : shown (schema counter) one_type (struct (optionals_of (Some (n 0) ∷ []))) ≡ data_map ((codes "n", i 0) ∷ [])
implicit_shown = refl

optional_absent : means point (data_map ((codes "x", i 1) ∷ [])) ≡ Some (struct (optionals_of (Some (n 1) ∷ None ∷ [])))
optional_absent = refl

-- ---- members by their names

member_shown : shown (schema either) one_type (union 1 (text (codes "v"))) ≡ data_map ((codes "String", D.text (codes "v")) ∷ [])
member_shown = refl

member_meant : means either (data_map ((codes "Int", i 4) ∷ [])) ≡ Some (union 0 (n 4))
member_meant = refl

role_shown : shown (schema role) one_type (enum 1) ≡ D.text (codes "Guest")
role_shown = refl

role_meant : means role (D.text (codes "Admin")) ≡ Some (enum 0)
role_meant = refl

-- a unit is the empty map, whatever its block is
unit_shown : shown (schema (T.Unit N.True)) one_type unit ≡ data_map []
unit_shown = refl

unit_meant : means (T.Unit N.Null) (data_map []) ≡ Some unit
unit_meant = refl

-- ---- each rule, broken

null_kind : broken point D.null Kind ≡ true
null_kind = refl

list_kind : broken point (D.list (items_of [])) Kind ≡ true
list_kind = refl

any_null : means T.Any D.null ≡ None
any_null = refl

inside_any : meant (schema T.Any) is_key anything D.null ≡ Some null
inside_any = refl

field_name : broken point (data_map ((codes "renamed", i 1) ∷ [])) Name ≡ true
field_name = refl

unit_name : broken (T.Unit N.EmptyMap) (data_map ((codes "x", i 1) ∷ [])) Name ≡ true
unit_name = refl

field_missing : broken point (data_map ((codes "y", i 1) ∷ [])) Missing ≡ true
field_missing = refl

role_text : broken role (D.text (codes "g")) MemberRule ≡ true
role_text = refl

two_members : broken either (data_map ((codes "Int", i 1) ∷ (codes "String", D.text []) ∷ [])) MemberRule ≡ true
two_members = refl

map_key : broken pair_map (data_map ((codes "a", i 1) ∷ (codes "bad", i 1) ∷ [])) Key ≡ true
map_key = refl

-- a part that breaks one, and the part that it is
part_fails : means either (data_map ((codes "String", i 4) ∷ [])) ≡ None
part_fails = refl

failing_part : part_by_numbers (schema either) (one_type, data_map ((codes "String", i 4) ∷ [])) (0 ∷ []) ≡ Some (plainly (number 7), i 4)
failing_part = refl

failing_rule : breaks (schema either) is_key (plainly (number 7)) (i 4) Kind ≡ true
failing_rule = refl
