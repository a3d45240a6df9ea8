-- Values as holders of parts: what a segment can lead to, and how a part is set, inserted and removed. Nothing here speaks of
-- paths, and what is not addressed stays.
use Rattle.std.specs.Prelude.{ℕ, List, Bool, true, false, Option, Some}
use Rattle.ild_data.specs.Data as D
use Rattle.ild_data.specs.Data.{Data, items_of, items_list, members_of, members_list}
use Rattle.ild_schema.specs.declared.def.TypeDef.{TypeDef}
use Rattle.ild_schema.specs.declared.def.TypeDef.TheVariants as T
use Rattle.ild_schema.specs.declared.def.MapForm.{MapForm}
use Rattle.ild_schema.specs.declared.def.MapForm.TheVariants as M
use Rattle.ild_schema.specs.declared.def.Field.{Field}
use Rattle.ild_schema.specs.declared.def.Member.{Member}
use Rattle.ild_schema.specs.declared.number.Slot.{Slot}
use Rattle.ild_schema.specs.declared.row.Row.{Row}
use Rattle.ild_schema.specs.Value.{Value, Values, Pairs, Optionals, null, boolean, integer, text, bytes, link, list, map, struct, union, enum, unit, any, hamt, values_of, values_list, pairs_of, pairs_list, optionals_of, optionals_list}
use Rattle.ild_schema.specs.Slots.{form_of}

-- data inside an Any as a value of the slot `nullable Any`, and back
abbrev pub of_any : Data → Value
of_any D.null = null
of_any (D.boolean b) = any (D.boolean b)
of_any (D.integer n) = any (D.integer n)
of_any (D.text s) = any (D.text s)
of_any (D.bytes s) = any (D.bytes s)
of_any (D.list ds) = any (D.list ds)
of_any (D.map ms) = any (D.map ms)
of_any (D.link s) = any (D.link s)

abbrev pub data_in : Value → Data
data_in (any d) = d
data_in v = D.null

-- A value, seen as what holds its parts.
pub data Holder : Type 0 where
  fields : List Field → List (Option Value) → Holder
  member : List Member → ℕ → Value → Holder
  -- the type of the keys, the slot of the values, and whether the entries keep an order of their own
  entries : ℕ → Slot → Bool → List (List ℕ × Value) → Holder
  elements : Slot → List Value → Holder
  any_entries : List (List ℕ × Data) → Holder
  any_elements : List Data → Holder
  nothing : Value → Holder

-- ---- values of each form; a value that is not of its slot's type holds no parts

abbrev pub is_paired : MapForm → Bool
is_paired M.Map = false
is_paired M.ListPairs = true
is_paired (M.StringPairs inner entry) = true
is_paired (M.Hamt p) = false

abbrev pub list_holder : Option TypeDef → Values → Holder
list_holder (Some (T.List elem at)) vs = elements elem (values_list vs)
list_holder d vs = nothing (list vs)

abbrev pub map_holder : Option TypeDef → Pairs → Holder
map_holder (Some (T.Map key key_at slot at f)) ps = entries key.0 slot (is_paired f) (pairs_list ps)
map_holder d ps = nothing (map ps)

abbrev pub struct_holder : Option TypeDef → Optionals → Holder
struct_holder (Some (T.Struct s)) os = fields s.fields (optionals_list os)
struct_holder d os = nothing (struct os)

abbrev pub union_holder : Option TypeDef → ℕ → Value → Holder
union_holder (Some (T.Union u)) n v = member u.members n v
union_holder d n v = nothing (union n v)

-- data inside an Any
abbrev pub any_holder : Data → Holder
any_holder (D.list ds) = any_elements (items_list ds)
any_holder (D.map ms) = any_entries (members_list ms)
any_holder d = nothing (any d)

abbrev pub holder_of : List Row → Slot → Value → Holder
holder_of rows slot null = nothing null
holder_of rows slot (boolean b) = nothing (boolean b)
holder_of rows slot (integer n) = nothing (integer n)
holder_of rows slot (text s) = nothing (text s)
holder_of rows slot (bytes s) = nothing (bytes s)
holder_of rows slot (link s) = nothing (link s)
holder_of rows slot (list vs) = list_holder (form_of rows slot) vs
holder_of rows slot (map ps) = map_holder (form_of rows slot) ps
holder_of rows slot (struct os) = struct_holder (form_of rows slot) os
holder_of rows slot (union n v) = union_holder (form_of rows slot) n v
holder_of rows slot (enum n) = nothing (enum n)
holder_of rows slot unit = nothing unit
holder_of rows slot (any d) = any_holder d
holder_of rows slot (hamt d) = nothing (hamt d)

-- the value that a holder is
abbrev pub value_of : Holder → Value
value_of (fields fs os) = struct (optionals_of os)
value_of (member ms n v) = union n v
value_of (entries key slot paired ps) = map (pairs_of ps)
value_of (elements slot vs) = list (values_of vs)
value_of (any_entries ms) = any (D.map (members_of ms))
value_of (any_elements ds) = any (D.list (items_of ds))
value_of (nothing v) = v
