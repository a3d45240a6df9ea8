-- How many levels of lists and maps a type takes around the parts of its values.
use Rattle.std.specs.Prelude.{ℕ}
use Rattle.ild_schema.specs.declared.def.TypeDef.{TypeDef}
use Rattle.ild_schema.specs.declared.def.TypeDef.TheVariants as D
use Rattle.ild_typed.specs.Levels.{map_levels, struct_levels}

abbrev pub levels_around : TypeDef → ℕ
levels_around (D.List elem at) = 1
levels_around (D.Map key key_at value at form) = map_levels form
levels_around (D.Struct s) = struct_levels s.form
levels_around (D.Union u) = 1
levels_around d = 0
