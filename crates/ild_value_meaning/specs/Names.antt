-- Fields and members by their names, as the shown form has them (IPLD Schemas, "type-level representation").
use Rattle.std.specs.Prelude.{ℕ, suc, List, [], ◌∷◌, Bool, true, is_some, ◌&&◌, Option, Some, None, option_map, if◌then◌else◌}
use Rattle.ild_data.specs.Data.{Members, no_members, member}
use Rattle.ild_data.specs.Key.{same_text}
use Rattle.ild_schema.specs.declared.def.Field.{Field}
use Rattle.ild_schema.specs.declared.def.EnumMember.{EnumMember}
use Rattle.ild_schema.specs.declared.number.Slot.{Slot}

-- the slot of the first field of a name
abbrev pub slot_named : List ℕ → List Field → Option Slot
slot_named name [] = None
slot_named name (f ∷ fs) = if same_text name f.name then Some f.slot else slot_named name fs

-- each key of a map is the name of a field
abbrev pub are_named : List Field → Members → Bool
are_named fs no_members = true
are_named fs (member k d ms) = is_some (slot_named k fs) && are_named fs ms

-- the number of the first member of a name
abbrev pub enum_named : List ℕ → List EnumMember → Option ℕ
enum_named name [] = None
enum_named name (m ∷ ms) = if same_text name m.name then Some 0 else option_map (λ n. suc n) (enum_named name ms)
