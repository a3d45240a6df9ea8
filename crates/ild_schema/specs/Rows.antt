-- What a list of rows says of the type with a number, which is its place.
use Rattle.std.specs.Prelude.{ℕ, List, Option, slice_get, option_map}
use Rattle.ild_schema.specs.declared.def.TypeDef.{TypeDef}
use Rattle.ild_schema.specs.declared.row.Row.{Row}

abbrev pub def_at : List Row → ℕ → Option TypeDef
def_at rows n = option_map (λ r. r.def) (slice_get rows n)

abbrev pub name_at : List Row → ℕ → Option (List ℕ)
name_at rows n = option_map (λ r. r.name) (slice_get rows n)

abbrev pub place_at : List Row → ℕ → Option ℕ
place_at rows n = option_map (λ r. r.at) (slice_get rows n)
