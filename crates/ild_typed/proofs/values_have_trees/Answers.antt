use Rattle.ild_schema.proofs.Legibly.{legible}
use Rattle.ild_typed.proofs.MakingValues.{typed_tree}
use Rattle.ild_typed.proofs.values_have_trees.Goals as goal

pub returns : goal.returns
returns c = λ h rows schema. typed_tree h rows (legible rows schema.accepted).made
