-- The types whose layers are read here, copies followed.
use Rattle.std.specs.Prelude.{◌≡◌, ℕ, Bool, true, false, List}
use Rattle.std.specs.Option.{option_map_or}
use Rattle.ild_schema.specs.declared.def.TypeDef.{TypeDef}
use Rattle.ild_schema.specs.declared.def.TypeDef.TheVariants as D
use Rattle.ild_schema.specs.declared.row.Row.{Row}
use Rattle.ild_schema.specs.Kinds.{meant}

abbrev pub is_unit : TypeDef → Bool
is_unit (D.Unit form) = true
is_unit d = false

abbrev pub is_enum : TypeDef → Bool
is_enum (D.Enum e) = true
is_enum d = false

abbrev pub IsUnitType : List Row → ℕ → Type 0
IsUnitType rows ty = option_map_or is_unit (meant rows ty) false ≡ true

abbrev pub IsEnumType : List Row → ℕ → Type 0
IsEnumType rows ty = option_map_or is_enum (meant rows ty) false ≡ true
