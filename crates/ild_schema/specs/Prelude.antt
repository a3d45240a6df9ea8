-- The prelude (IPLD Schemas, "Schema Prelude"): the eight types that each schema has without declaring them.
use Rattle.std.specs.Prelude.{ℕ, true, List, [], ◌∷◌, ◌++◌, codes}
use Rattle.ild_schema.specs.declared.number.TypeNo.{TypeNo}
use Rattle.ild_schema.specs.declared.number.Slot.{Slot}
use Rattle.ild_schema.specs.declared.def.TypeDef.{TypeDef}
use Rattle.ild_schema.specs.declared.def.TypeDef.TheVariants as D
use Rattle.ild_schema.specs.declared.def.MapForm.TheVariants as M
use Rattle.ild_schema.specs.declared.row.Row.{Row}
use Rattle.ild_schema.specs.declared.row.Origin.TheVariants as O

abbrev pub number : ℕ → TypeNo
number n = record { 0 = n }

abbrev pub given : List ℕ → TypeDef → Row
given name def = record { def = def; name = name; at = 0; origin = O.Prelude }

-- any value, or null
abbrev pub anything : Slot
anything = record { ty = number 0; nullable = true }

abbrev pub prelude : List Row
prelude =
    given (codes "Any") D.Any
    ∷ given (codes "Bool") D.Bool
    ∷ given (codes "Bytes") D.Bytes
    ∷ given (codes "Int") D.Int
    ∷ given (codes "Link") (D.Link (number 0))
    ∷ given (codes "List") (D.List anything 0)
    ∷ given (codes "Map") (D.Map (number 7) 0 anything 0 M.Map)
    ∷ given (codes "String") D.Text
    ∷ []

-- rows, and the first half of the prelude or the second behind them
abbrev pub with_scalars : List Row → List Row
with_scalars rows =
    rows ++ given (codes "Any") D.Any ∷ [] ++ given (codes "Bool") D.Bool ∷ [] ++ given (codes "Bytes") D.Bytes ∷ []
    ++ given (codes "Int") D.Int ∷ []

abbrev pub with_others : List Row → List Row
with_others rows =
    rows ++ given (codes "Link") (D.Link (number 0)) ∷ [] ++ given (codes "List") (D.List anything 0) ∷ []
    ++ given (codes "Map") (D.Map (number 7) 0 anything 0 M.Map) ∷ [] ++ given (codes "String") D.Text ∷ []
