use Rattle.ild_path_apply.proofs.Within.{as_it_is}
use Rattle.ild_path_apply.proofs.inner.same.Goals as goal

pub returns : goal.returns
returns c = as_it_is c.args.node.now c.replace.result c.replace.ensures
