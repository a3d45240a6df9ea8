use Rattle.std.proofs.Common.{take, map}
use Rattle.ild_data.specs.Data.{items_of}
use Rattle.ild_data.specs.Seen.{data_of}
use Rattle.ild_data.specs.Tree.{AreTrees}
use Rattle.ild_data.proofs.tree.Trees.from_vec.Given as goal

abbrev pub invariant-loop-tree : goal.invariant-loop-tree
invariant-loop-tree l = AreTrees (items_of (map data_of (take l.tree-index l.tree-items)))
