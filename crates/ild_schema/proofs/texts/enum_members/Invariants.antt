use Rattle.std.proofs.Common.{take}
use Rattle.std.specs.List.{All}
use Rattle.ild_schema.specs.inside.Written.{EnumMemberTexts}
use Rattle.ild_schema.proofs.texts.enum_members.Given as goal

abbrev pub invariant-loop-part : goal.invariant-loop-part
invariant-loop-part l = All EnumMemberTexts (take l.part-index l.members)
