use Rattle.std.proofs.Common.{map, take, sym, subst, List}
use Rattle.ild_data.specs.Data.{Data, items_of}
use Rattle.ild_data.specs.Seen.{data_of}
use Rattle.ild_data.specs.Tree.{AreTrees}
use Rattle.ild_data.proofs.Lists.{AreTrees-push, taken_more}
use Rattle.ild_data.proofs.tree.Trees.from_vec.Goals as goal

pub loop-tree-preserved : goal.loop-tree-preserved
loop-tree-preserved c =
    let xs = c.deref-tree-items.result.now in
    let i = c.loop-tree.tree-index in
    let more = taken_more data_of xs i c.tree-item.result c.loop-tree-test.true c.tree-item.is in
    subst (λ (ds : List Data). AreTrees (items_of ds)) (sym more) (AreTrees-push (map data_of (take i xs)) (data_of c.tree-item.result) c.loop-tree.invariant c.well_formed-in-loop-tree.ensures)
