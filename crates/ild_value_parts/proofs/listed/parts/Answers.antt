use Rattle.ild_schema.specs.ValueSeen.{value_of}
use Rattle.ild_typed.specs.At.{seen}
use Rattle.ild_value_parts.proofs.Lists.{walked_by}
use Rattle.ild_value_parts.proofs.listed.parts.Goals as goal

pub returns-in-Some : goal.returns-in-Some
returns-in-Some c = walked_by c.args.acc.now (seen c.args.acc.now (c.args.slot, value_of c.args.val.now)) c.in_ok-pairs.field-0 c.in-Some.pairs c.in_ok-pairs.ensures c.in-Some.is
