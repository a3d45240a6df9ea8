-- Fields that a block leaves out, since they have their implicit value.
use Rattle.std.specs.Prelude.{◌≡◌, ◌↔◌, ℕ, Bool, true, false, List, Some, None, option_and_then, slice_get}
use Rattle.std.specs.Option.{option_map_or}
use Rattle.ild_schema.specs.Parts.{part_named}
use Rattle.ild_schema.specs.Slots.{form_of}
use Rattle.ild_schema.specs.declared.def.Field.{Field}
use Rattle.ild_schema.specs.declared.row.Row.{Row}
use Rattle.ild_typed.specs.At.{InSlot, seen}
use Rattle.ild_typed.specs.Fields.{is_implicit}
use Rattle.ild_typed.specs.Hamt.{alone}
use Rattle.ild_typed.specs.Represented.{represented}
use Rattle.ild_typed.specs.Slots.{fields_of}
use Rattle.ild_view.specs.Parts.{field_named}
use Rattle.ild_view.specs.View.{piece_of}
use Rattle.ild_view.specs.declared.view.View.{View}

-- whether a part is the implicit value of its field
abbrev pub has_implicit : List Row → Field → InSlot → Bool
has_implicit rows g q = option_map_or (is_implicit g.implicit) (represented alone rows q.0 q.1) false

-- The view of the field with a name is one of no piece of the block exactly where the field has its implicit value, so that the block
-- leaves it out.
abbrev pub TellsLeftOut : List Row → InSlot → List ℕ → View → Type 0
TellsLeftOut rows p name w =
    (n : ℕ) (g : Field) (q : InSlot) → option_and_then (part_named name) (form_of rows p.0) ≡ Some n → slice_get (fields_of (form_of rows p.0)) n ≡ Some g → field_named (seen rows p) name ≡ Some q
    → (piece_of w ≡ None) ↔ (has_implicit rows g q ≡ true)
