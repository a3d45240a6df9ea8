use Rattle.ild_typed.proofs.TreeShown.{shown_tree}
use Rattle.ild_typed.proofs.shown_are_trees.Goals as goal

pub returns : goal.returns
returns c = λ rows schema. shown_tree rows schema.table.texts.spelled schema.table.texts.named
