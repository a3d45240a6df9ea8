use Rattle.ild_typed.proofs.TreeValues.{whole_tree}
use Rattle.ild_typed.proofs.values_are_trees.Goals as goal

pub returns : goal.returns
returns c = λ h rows schema. whole_tree h rows schema.table.texts.spelled
