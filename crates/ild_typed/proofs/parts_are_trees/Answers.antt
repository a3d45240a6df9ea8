use Rattle.ild_typed.proofs.WalkForms.{table_parts}
use Rattle.ild_typed.proofs.parts_are_trees.Goals as goal

pub returns : goal.returns
returns c = table_parts
