use Rattle.std.proofs.Common.{take}
use Rattle.std.specs.List.{All}
use Rattle.ild_schema.specs.inside.Written.{FieldTexts}
use Rattle.ild_schema.proofs.texts.fields.Given as goal

abbrev pub invariant-loop-part : goal.invariant-loop-part
invariant-loop-part l = All FieldTexts (take l.part-index l.fields)
