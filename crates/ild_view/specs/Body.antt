-- What the body of a view stands for: the data of a piece, or those of an implicit value.
use Rattle.std.specs.Prelude.{◌≡◌, ◌||◌, ℕ, Bool, true, false, not, List}
use Rattle.std.specs.Option.{option_map_or}
use Rattle.ild_data.specs.Data.{Data}
use Rattle.ild_layer_piece.specs.Pieces.{StandsFor}
use Rattle.ild_schema.specs.Rules.{is_of}
use Rattle.ild_schema.specs.Slots.{form_of}
use Rattle.ild_schema.specs.declared.def.TypeDef.{TypeDef}
use Rattle.ild_schema.specs.declared.def.TypeDef.TheVariants as D
use Rattle.ild_schema.specs.declared.number.Slot.{Slot}
use Rattle.ild_schema.specs.declared.row.Row.{Row}
use Rattle.ild_struct.specs.Source.{types_of}
use Rattle.ild_typed.specs.Fields.{is_scalar}
use Rattle.ild_union.specs.Forms.{passes_over}
use Rattle.ild_view.specs.declared.body.Body.{Body}
use Rattle.ild_view.specs.declared.body.Body.TheVariants as B

abbrev pub BodyStands : List Row → Body → Data → Type 0
BodyStands rows (B.Held p) t = StandsFor rows p t
BodyStands rows (B.Implicit s) t = is_scalar s.now t ≡ true

-- how many types a table has that has the union whose discriminant is passed over
abbrev pub body_types : Body → ℕ
body_types (B.Held p) = types_of p
body_types (B.Implicit s) = 0

abbrev pub is_struct : TypeDef → Bool
is_struct (D.Struct s) = true
is_struct d = false

-- an entry of a map is passed over in a struct alone, and an implicit value is of the slot's type
abbrev pub is_placed : List Row → Slot → Body → Bool
is_placed rows s (B.Held p) = not (passes_over p) || option_map_or is_struct (form_of rows s) false
is_placed rows s (B.Implicit scalar) = is_of scalar.now (form_of rows s)

-- a piece in which no entry is passed over
abbrev pub is_free : Body → Bool
is_free (B.Held p) = not (passes_over p)
is_free (B.Implicit s) = false
