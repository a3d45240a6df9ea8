-- Whether an edit of the last holder of a path leaves a hole in it: an absent field of a tuple before a present one (IPLD Schemas,
-- "Struct Representation Strategies").
use Rattle.std.specs.Prelude.{◌≡◌, ◌-◌, ℕ, List, Bool, true, false, nat_lt, Option, Some, None}
use Rattle.ild_path_edits.specs.Table.{delete_part}
use Rattle.ild_path_room.specs.Room.{Coming, brought}
use Rattle.ild_path_room.specs.declared.hole.PartMotion.{PartMotion}
use Rattle.ild_path_room.specs.declared.hole.PartMotion.TheVariants as E
use Rattle.ild_schema.specs.Slots.{form_of}
use Rattle.ild_schema.specs.Value.{Value}
use Rattle.ild_schema.specs.declared.def.StructForm.{StructForm}
use Rattle.ild_schema.specs.declared.def.StructForm.TheVariants as S
use Rattle.ild_schema.specs.declared.def.TypeDef.{TypeDef}
use Rattle.ild_schema.specs.declared.def.TypeDef.TheVariants as D
use Rattle.ild_schema.specs.declared.row.Row.{Row}
use Rattle.ild_typed.specs.At.{InSlot, seen}
use Rattle.ild_typed.specs.Holder.{value_of}
use Rattle.ild_typed.specs.Judged.{is_hole}

-- whatever part comes, set or inserted
abbrev pub TellsHole : List Row → InSlot → List ℕ → PartMotion → Bool → Type 0
TellsHole rows p s E.Comes answer = (how : Coming) (w : Value) → answer ≡ is_hole (form_of rows p.0) (value_of (brought how w (seen rows p) s))
TellsHole rows p s E.Goes answer = answer ≡ is_hole (form_of rows p.0) (value_of (delete_part (seen rows p) s))

-- a struct that stands as a tuple
abbrev pub stands_as_tuple : StructForm → Bool
stands_as_tuple S.Tuple = true
stands_as_tuple form = false

abbrev pub is_tuple : TypeDef → Bool
is_tuple (D.Struct s) = stands_as_tuple s.form
is_tuple d = false

-- Of a tuple in which the present fields stand in front: the number of a field, and how many are present.
abbrev pub told_at : PartMotion → Option ℕ → Option ℕ → Bool
told_at E.Comes (Some n) (Some c) = nat_lt c n
told_at E.Comes (Some n) None = false
told_at E.Comes None c = false
told_at E.Goes (Some n) (Some c) = nat_lt n (c - 1)
told_at E.Goes (Some n) None = false
told_at E.Goes None c = false
