use Rattle.ild_run.proofs.Openings.{named_within}
use Rattle.ild_run.proofs.open.type_named.Goals as goal

pub returns-clause-within : goal.returns-clause-within
returns-clause-within c = named_within c.args.schema.now c.args.name.now c.type_named.result c.type_named.ensures
