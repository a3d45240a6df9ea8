-- The empty value of a type that, copies followed, is a map or a list (IPLD Schemas, "Type kinds").
use Rattle.std.specs.Prelude.{◌≡◌, ℕ, List, [], Option, Some, None, option_and_then}
use Rattle.std.specs.Option.{option_map_or}
use Rattle.ild_schema.specs.Slots.{form_of, plainly}
use Rattle.ild_schema.specs.Value.{Value, list, no_values, map, no_pairs}
use Rattle.ild_schema.specs.declared.def.TypeDef.{TypeDef}
use Rattle.ild_schema.specs.declared.def.TypeDef.TheVariants as D
use Rattle.ild_schema.specs.declared.number.TypeNo.{TypeNo}
use Rattle.ild_schema.specs.declared.row.Row.{Row}
use Rattle.ild_typed.specs.Hamt.{whole}
use Rattle.ild_typed.specs.Represented.{represented}
use Rattle.ild_typed.specs.Stands.{bare, blocks_of}

-- of a form; other forms have none
abbrev pub empty_in : TypeDef → Option Value
empty_in (D.List elem at) = Some (list no_values)
empty_in (D.Map key key_at value at form) = Some (map no_pairs)
empty_in d = None

abbrev pub empty_of : List Row → TypeNo → Option Value
empty_of rows ty = option_and_then empty_in (form_of rows (plainly ty))

abbrev pub IsEmpty : List Row → TypeNo → Value → Type 0
IsEmpty rows ty v = empty_of rows ty ≡ Some v

-- the blocks of a value, the root block first
abbrev pub value_blocks : (List ℕ → List ℕ) → List Row → TypeNo → Value → List (List ℕ)
value_blocks h rows ty v = option_map_or (blocks_of bare h rows ty v) (represented (whole h) rows (plainly ty) v) []

-- those of the empty value: one, or none where the type has no such value
abbrev pub empty_blocks : (List ℕ → List ℕ) → List Row → TypeNo → List (List ℕ)
empty_blocks h rows ty = option_map_or (value_blocks h rows ty) (empty_of rows ty) []
