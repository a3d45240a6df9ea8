-- What a check of a piece asks for: the slot's type is in the table, and an entry of a map is passed over in a struct alone.
use Rattle.std.specs.Prelude.{◌≡◌, ◌<◌, Bool, true, false, List, length, Option, Some, None}
use Rattle.std.specs.List.{AllByRecursion}
use Rattle.std.specs.Option.{option_map_or}
use Rattle.ild_cbor.specs.declared.piece.Piece.{Piece}
use Rattle.ild_layer_piece.specs.Pieces.{IsNumbered}
use Rattle.ild_schema.specs.Slots.{form_of, plainly}
use Rattle.ild_schema.specs.declared.def.Field.{Field}
use Rattle.ild_schema.specs.declared.def.TypeDef.{TypeDef}
use Rattle.ild_schema.specs.declared.def.TypeDef.TheVariants as D
use Rattle.ild_schema.specs.declared.number.Slot.{Slot}
use Rattle.ild_schema.specs.declared.row.Row.{Row}
use Rattle.ild_union.specs.Forms.{passes_over}
use Rattle.ild_layer_parts.specs.declared.part.Part.{Part}
use Rattle.ild_layer_parts.specs.declared.parts.Parts.{Parts}
use Rattle.ild_layer_parts.specs.declared.parts.Parts.TheVariants as P

abbrev pub IsIn : List Row → Slot → Type 0
IsIn rows s = s.ty.0 < length rows

-- the types of fields are
abbrev pub AreIn : List Row → List Field → Type 0
AreIn rows fs = AllByRecursion (λ f. IsIn rows f.slot) fs

abbrev pub is_struct : TypeDef → Bool
is_struct (D.Struct s) = true
is_struct d = false

abbrev pub IsInlined : List Row → Slot → Piece → Type 0
IsInlined rows s p = passes_over p ≡ true → option_map_or is_struct (form_of rows s) false ≡ true

pub record IsReady (rows : List Row) (x : Part) : Type 0 where
  pub within : IsIn rows x.slot
  pub numbered : IsNumbered rows x.piece
  pub inlined : IsInlined rows x.slot x.piece

-- the parts that are left
abbrev pub AreReady : List Row → Parts → Type 0
AreReady rows P.Nothing = Unit {0}
AreReady rows (P.List s) = IsIn rows s.slot
AreReady rows (P.Map s) = IsIn rows (plainly s.key) × IsIn rows s.value
AreReady rows (P.Root s) = IsIn rows (plainly s.key) × IsIn rows s.value
AreReady rows (P.Struct s) = AreIn rows s.def.now.fields
AreReady rows (P.Member x) = IsReady rows x
AreReady rows (P.Texts s) = IsIn rows (plainly s.key) × IsIn rows s.value
AreReady rows (P.Pairs s) = IsIn rows (plainly s.key) × IsIn rows s.value

abbrev pub IsPartReady : List Row → Option Part → Type 0
IsPartReady rows None = Unit {0}
IsPartReady rows (Some x) = IsReady rows x

abbrev pub AreReadyBoth : List Row → Option Part → Parts → Type 0
AreReadyBoth rows o rest = IsPartReady rows o × AreReady rows rest
