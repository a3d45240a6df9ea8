use Rattle.std.proofs.Common.{◌≤◌, refl, arith}
use Rattle.ild_data.specs.Data.{depth, items_depth, members_depth}
use Rattle.ild_data.specs.Seen.{data_of}
use Rattle.ild_data.proofs.Spelling.{item_depth-in, member_depth-in}
use Rattle.ild_build.proofs.TreeRooms.{trees_more, entries_more, trees_all, entries_all, not_over}
use Rattle.ild_build.proofs.room.+tree.Goals as goal

pub trees_fit-tree_fits-requires : goal.trees_fit-tree_fits-requires
trees_fit-tree_fits-requires t c =
    let below : depth (data_of c.part-item.result) ≤ items_depth c.args.trees.now =
    item_depth-in c.as_slice-part-items.result.now c.args.trees.now c.loop-part.part-index c.part-item.result c.as_slice-part-items.ensures (omega arith) c.part-item.is in
    (omega arith, tt)

pub entries_fit-tree_fits-requires : goal.entries_fit-tree_fits-requires
entries_fit-tree_fits-requires t c =
    let below : depth (data_of c.pair-item.result.1) ≤ members_depth c.args.entries.now =
    member_depth-in c.as_slice-pair-items.result.now c.args.entries.now c.loop-pair.pair-index c.pair-item.result c.as_slice-pair-items.ensures (omega arith) c.pair-item.is in
    (omega arith, tt)

pub trees_fit-returns-then-not-tree_fits : goal.trees_fit-returns-then-not-tree_fits
trees_fit-returns-then-not-tree_fits t c =
    let below : depth (data_of c.part-item.result) ≤ items_depth c.args.trees.now =
    item_depth-in c.as_slice-part-items.result.now c.args.trees.now c.loop-part.part-index c.part-item.result c.as_slice-part-items.ensures (omega arith) c.part-item.is in
    not_over _ _ _ _ below c.if-not-tree_fits.true c.tree_fits.ensures

pub entries_fit-returns-then-not-tree_fits : goal.entries_fit-returns-then-not-tree_fits
entries_fit-returns-then-not-tree_fits t c =
    let below : depth (data_of c.pair-item.result.1) ≤ members_depth c.args.entries.now =
    member_depth-in c.as_slice-pair-items.result.now c.args.entries.now c.loop-pair.pair-index c.pair-item.result c.as_slice-pair-items.ensures (omega arith) c.pair-item.is in
    not_over _ _ _ _ below c.if-not-tree_fits.true c.tree_fits.ensures

pub trees_fit-loop-part-preserved : goal.trees_fit-loop-part-preserved
trees_fit-loop-part-preserved t c =
    trees_more c.as_slice-part-items.result.now c.loop-part.part-index c.part-item.result c.args.room (omega arith) c.part-item.is c.loop-part.invariant (c.tree_fits.ensures.0 c.if-not-tree_fits.false)

pub entries_fit-loop-pair-preserved : goal.entries_fit-loop-pair-preserved
entries_fit-loop-pair-preserved t c =
    entries_more c.as_slice-pair-items.result.now c.loop-pair.pair-index c.pair-item.result c.args.room (omega arith) c.pair-item.is c.loop-pair.invariant (c.tree_fits.ensures.0 c.if-not-tree_fits.false)

pub trees_fit-returns : goal.trees_fit-returns
trees_fit-returns t c =
    let all = trees_all c.as_slice-part-items.result.now c.args.trees.now c.loop-part.part-index c.args.room c.as_slice-part-items.ensures (omega arith) c.loop-part.invariant in
    ((λ e. all), (λ h. refl))

pub entries_fit-returns : goal.entries_fit-returns
entries_fit-returns t c =
    let all = entries_all c.as_slice-pair-items.result.now c.args.entries.now c.loop-pair.pair-index c.args.room c.as_slice-pair-items.ensures (omega arith) c.loop-pair.invariant in
    ((λ e. all), (λ h. refl))
