use Rattle.std.proofs.Common.{rules}
use Rattle.ild_build.proofs.Low.{field_low}
use Rattle.ild_build.proofs.parts.field_slot.Goals as goal

pub returns-in-Some-clause-within : goal.returns-in-Some-clause-within
returns-in-Some-clause-within c = λ n within. field_low n c.in-Struct.s c.args.i c.in-Some.field.now (search rules) (search rules)
