use Rattle.std.proofs.Common.{take}
use Rattle.std.specs.List.{All}
use Rattle.ild_schema.specs.inside.Written.{RowTexts}
use Rattle.ild_schema.proofs.texts.texts_of.Given as goal

abbrev pub invariant-loop-row : goal.invariant-loop-row
invariant-loop-row l = All RowTexts (take l.row-index l.rows)
