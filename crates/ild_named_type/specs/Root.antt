-- The type of a root that names its schema (IPLD Schemas): the struct of the name of the value's type, the value, and the link to the
-- block of the schema's text. It is the last row of a table that is the schema's with this one row more.
use Rattle.std.specs.Prelude.{ℕ, ◌<◌, ◌≤◌, false, List, [], ◌∷◌, ◌++◌, length, None, codes}
use Rattle.ild_schema.specs.declared.number.TypeNo.{TypeNo}
use Rattle.ild_schema.specs.declared.def.TypeDef.{TypeDef}
use Rattle.ild_schema.specs.declared.def.TypeDef.TheVariants as D
use Rattle.ild_schema.specs.declared.def.StructForm.TheVariants as S
use Rattle.ild_schema.specs.declared.def.Field.{Field}
use Rattle.ild_schema.specs.declared.row.Row.{Row}
use Rattle.ild_schema.specs.declared.row.Origin.TheVariants as O
use Rattle.ild_schema.specs.Accept.{IsAccepted}
use Rattle.ild_schema.specs.Prelude.{number}
use Rattle.ild_schema.specs.Slots.{plainly}
use Rattle.ild_schema.specs.Table.{IsTable}

-- a field of a value of a type: it is never null, it is always there, and it stands in a block under its own name
abbrev pub part : List ℕ → TypeNo → Field
part name n = record { name = name; at = 0; optional = false; slot = plainly n; rename = None; implicit = None }

-- the fields of a root over a value of a type. In the prelude, String is the type 7 and Link the type 4
abbrev pub root_parts : TypeNo → List Field
root_parts n = part (codes "type") (number 7) ∷ part (codes "value") n ∷ part (codes "schema") (number 4) ∷ []

-- they stand in a block as a map
abbrev pub root_def : TypeNo → TypeDef
root_def n = D.Struct (record { fields = root_parts n; form = S.Map })

-- no text can name the struct
abbrev pub root_row : TypeNo → Row
root_row n = record { def = root_def n; name = []; at = 0; origin = O.Inline }

-- the table with that struct
abbrev pub named_rows : List Row → TypeNo → List Row
named_rows rows n = rows ++ root_row n ∷ []

-- the number of the struct
abbrev pub root_type : List Row → TypeNo
root_type rows = number (length rows)

-- with the struct, the table of a schema that a text declares is one for which no rule fails
abbrev pub RootsAreTyped : Type 0
RootsAreTyped =
    (rows : List Row) (n : TypeNo) → IsTable rows → IsAccepted rows → length rows ≤ 65543 → n.0 < length rows
    → IsTable (named_rows rows n) × IsAccepted (named_rows rows n)
