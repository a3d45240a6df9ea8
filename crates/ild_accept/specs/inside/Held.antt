-- The kinds of all types of a table, in a list of their own, so that the members of a union are gone through once.
use Rattle.std.specs.Prelude.{◌≡◌, List, map}
use Rattle.ild_schema.specs.declared.kinds.Kinds.{Kinds}
use Rattle.ild_schema.specs.declared.row.Row.{Row}
use Rattle.ild_schema.specs.Kinds.{def_kinds}

-- The list holds the kinds of each type of the table, at its number. A copy has none of its own: they are those at the
-- number of the type to which it leads.
pub record HoldsKinds (rows : List Row) (kinds : List Kinds) : Type 0 where
  pub same : kinds ≡ map (λ r. def_kinds r.def) rows
