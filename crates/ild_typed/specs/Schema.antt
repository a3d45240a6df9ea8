-- The tables of which the laws of values speak: those of schemas, for which no rule fails.
use Rattle.std.specs.Prelude.{List}
use Rattle.ild_schema.specs.declared.row.Row.{Row}
use Rattle.ild_schema.specs.Accept.{IsAccepted}
use Rattle.ild_schema.specs.Table.{IsTable}

pub record IsSchema (rows : List Row) : Type 0 where
  pub table : IsTable rows
  pub accepted : IsAccepted rows
