use Rattle.ild_run_named.proofs.Within.{named_within}
use Rattle.ild_run_named.proofs.typing.type_named.Goals as goal

pub returns-clause-within : goal.returns-clause-within
returns-clause-within c = named_within c.args.acc.now c.args.name.now c.type_named.result c.type_named.ensures
