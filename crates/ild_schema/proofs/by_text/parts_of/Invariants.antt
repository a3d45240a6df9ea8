use Rattle.std.proofs.Common.{take}
use Rattle.ild_schema.specs.Indexed.{HasParts}
use Rattle.ild_schema.proofs.by_text.parts_of.Given as goal

abbrev pub invariant-loop-row : goal.invariant-loop-row
invariant-loop-row l = HasParts (take l.row-index l.rows) l.parts.items
