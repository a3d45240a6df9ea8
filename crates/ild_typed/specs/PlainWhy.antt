-- Why data are no layer of a map, a unit or an enum (IPLD Schemas, "Representation Strategies"): each cause by itself.
use Rattle.std.specs.Prelude.{Bool, true, false, not, List, Option, Some}
use Rattle.std.specs.List.{list_any}
use Rattle.ild_data.specs.Data as T
use Rattle.ild_data.specs.Data.{Data}
use Rattle.ild_data.specs.Key.{same_text}
use Rattle.ild_schema.specs.declared.def.UnitForm.{UnitForm}
use Rattle.ild_schema.specs.declared.def.UnitForm.TheVariants as U
use Rattle.ild_schema.specs.declared.def.MapForm.{MapForm}
use Rattle.ild_schema.specs.declared.def.MapForm.TheVariants as MF
use Rattle.ild_schema.specs.declared.def.EnumForm.{EnumForm}
use Rattle.ild_schema.specs.declared.def.EnumMember.{EnumMember}
use Rattle.ild_typed.specs.Fields.{same_int}
use Rattle.ild_typed.specs.Composed.{enum_form}
use Rattle.ild_typed.specs.Named.{has_odd_pair, has_odd_count, is_unsplit}

-- ---- maps, units and enums

abbrev pub map_kind_why : MapForm → Data → Bool
map_kind_why MF.ListPairs t = has_odd_pair t
map_kind_why form t = false

abbrev pub map_count : MapForm → Data → Bool
map_count MF.ListPairs t = has_odd_count t
map_count form t = false

abbrev pub map_delimiter : MapForm → Data → Bool
map_delimiter (MF.StringPairs inner entry) t = is_unsplit inner entry t
map_delimiter form t = false

-- the empty map has entries
abbrev pub has_entries : Data → Bool
has_entries (T.map (T.member k d ms)) = true
has_entries t = false

abbrev pub unit_count : UnitForm → Data → Bool
unit_count U.EmptyMap t = has_entries t
unit_count form t = false

-- a truth value is not the unit's
abbrev pub is_truth : Bool → Data → Bool
is_truth b (T.boolean true) = b
is_truth b (T.boolean false) = not b
is_truth b t = false

abbrev pub unit_member : UnitForm → Data → Bool
unit_member U.True t = is_truth false t
unit_member U.False t = is_truth true t
unit_member form t = false

-- the text or the integer of a member
abbrev pub is_value : Option Data → Data → Bool
is_value (Some (T.text a)) (T.text b) = same_text a b
is_value (Some (T.integer a)) (T.integer b) = same_int a b
is_value o t = false

abbrev pub enum_member : EnumForm → List EnumMember → Data → Bool
enum_member form ms t = not (list_any (λ m. is_value (enum_form form m) t) ms)
