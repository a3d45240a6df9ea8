-- What acceptance says of a table in plain facts, on which the laws of values rest: a block tells its value, and a value
-- has a block.
use Rattle.std.specs.Prelude.{List}
use Rattle.ild_schema.specs.declared.row.Row.{Row}
use Rattle.ild_schema.specs.Accept.{IsAccepted}
use Rattle.ild_schema.specs.Apart.{AreNamedApart}
use Rattle.ild_schema.specs.Clear.{IsClear}
use Rattle.ild_schema.specs.Delims.{AllDelims}
use Rattle.ild_schema.specs.Fitting.{IsFitting}
use Rattle.ild_schema.specs.Made.{IsMade}

pub record IsLegible (rows : List Row) : Type 0 where
  pub clear : IsClear rows
  pub made : IsMade rows
  pub delims : AllDelims rows
  pub named : AreNamedApart rows
  pub fitting : IsFitting rows

-- an accepted table is legible
abbrev pub AcceptedAreLegible : Type 0
AcceptedAreLegible = (rows : List Row) → IsAccepted rows → IsLegible rows
