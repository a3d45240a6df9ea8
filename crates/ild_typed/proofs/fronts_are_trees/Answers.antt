use Rattle.ild_typed.proofs.TreeValues.{alone_tree}
use Rattle.ild_typed.proofs.fronts_are_trees.Goals as goal

pub returns : goal.returns
returns c = λ rows schema room s f d p. alone_tree rows schema.table.texts.spelled room s f d p.fits p.tree
