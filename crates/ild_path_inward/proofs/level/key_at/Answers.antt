use Rattle.ild_view.specs.Roots.{root_in}
use Rattle.ild_path_inward.proofs.Keys.{key_is}
use Rattle.ild_path_inward.proofs.level.key_at.Goals as goal

pub returns-in-Some-clause-key : goal.returns-in-Some-clause-key
returns-in-Some-clause-key c = λ f is. key_is _ (root_in f) c.args.halt.now.left.now c.split_first.result c.in-Some.field-0 (c.in-Some.ensures f is) c.split_first.ensures.cases
