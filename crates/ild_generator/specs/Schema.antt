-- The schema of the generator: its text, and the table to which that is compiled.
use Rattle.std.specs.Prelude.{ℕ, List, [], ◌∷◌, ◌++◌, codes}
use Rattle.ild_compile.specs.Compile.{Compiles, table}
use Rattle.ild_data.specs.TrieShape.{usual}
use Rattle.ild_schema.specs.Prelude.{prelude, number}
use Rattle.ild_schema.specs.Slots.{plainly}
use Rattle.ild_schema.specs.declared.def.TypeDef.TheVariants as D
use Rattle.ild_schema.specs.declared.def.MapForm.TheVariants as M
use Rattle.ild_schema.specs.declared.number.TypeNo.{TypeNo}
use Rattle.ild_schema.specs.declared.row.Row.{Row}
use Rattle.ild_schema.specs.declared.row.Origin.TheVariants as O

abbrev pub source : List ℕ
source = codes "type G {String:Int} representation advanced HAMT"

-- behind the prelude one type: a HAMT from String to Int, with the places of its name, its key and its value in the text
abbrev pub generator_rows : List Row
generator_rows = prelude ++ record { def = D.Map (number 7) 8 (plainly (number 3)) 15 (M.Hamt usual); name = codes "G"; at = 5; origin = O.Declared } ∷ []

abbrev pub generator_type : TypeNo
generator_type = number 8

abbrev pub IsCompiledTo : Type 0
IsCompiledTo = Compiles source (table generator_rows)
