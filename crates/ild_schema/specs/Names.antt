-- The names of a table of types: which of them a text can use, and for which type each stands.
use Rattle.std.specs.Prelude.{ℕ, Bool, true, false, List, Option, Some, None, map, filter, ◌&&◌, bytes_eq, if◌then◌else◌}
use Rattle.std.specs.List.{position_from}
use Rattle.ild_schema.specs.declared.row.Row.{Row}
use Rattle.ild_schema.specs.declared.row.Origin.{Origin}
use Rattle.ild_schema.specs.declared.row.Origin.TheVariants as O

-- whether the text of a schema, or who reads by it, can name a type of this origin
abbrev pub is_open : Origin → Bool
is_open O.Prelude = true
is_open O.Declared = true
is_open O.Inline = false

abbrev pub is_declared : Origin → Bool
is_declared O.Prelude = false
is_declared O.Declared = true
is_declared O.Inline = false

-- whether a name stands for this type
abbrev pub is_named : List ℕ → Row → Bool
is_named name r = is_open r.origin && bytes_eq name r.name

-- the number of the type for which a name stands: the first of that name that is no inline type
abbrev pub number_named : List ℕ → List Row → Option ℕ
number_named name rows = position_from (is_named name) 0 rows

-- the name by which a text can name a type
abbrev pub open_name : Row → Option (List ℕ)
open_name r = if is_open r.origin then Some r.name else None

-- those of a table, each at the number of its type
abbrev pub open_names : List Row → List (Option (List ℕ))
open_names rows = map open_name rows

-- the declared names, in the order of the text
abbrev pub declared_names : List Row → List (List ℕ)
declared_names rows = map (λ r. r.name) (filter (λ r. is_declared r.origin) rows)
