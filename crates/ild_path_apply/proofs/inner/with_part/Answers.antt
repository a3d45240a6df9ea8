use Rattle.ild_path_replaced.specs.Seen.{tree_steps}
use Rattle.ild_path_apply.proofs.Within.{in_part, no_part}
use Rattle.ild_path_apply.proofs.inner.with_part.Goals as goal

pub returns-in-Some : goal.returns-in-Some
returns-in-Some c = λ x stands. in_part c.args.node.now (tree_steps c.args.steps.now) x c.replace.result c.in-Some.part c.in-Some.ensures (c.replace.ensures x stands)

pub returns-in-None : goal.returns-in-None
returns-in-None c = λ x stands. no_part c.args.node.now (tree_steps c.args.steps.now) x c.same.result c.in-None.ensures c.same.ensures
