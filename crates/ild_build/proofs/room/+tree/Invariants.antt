use Rattle.std.proofs.Common.{◌+◌, ◌*◌}
use Rattle.ild_data.specs.Data.{depth, items_depth, members_depth}
use Rattle.ild_data.specs.Seen.{data_of}
use Rattle.ild_build.proofs.TreeRooms.{TreesFit, EntriesFit}
use Rattle.ild_build.proofs.room.+tree.Given as goal

abbrev pub decreases-tree_fits : goal.decreases-tree_fits
decreases-tree_fits l = 2 * depth (data_of l.tree.now)

abbrev pub decreases-trees_fit : goal.decreases-trees_fit
decreases-trees_fit l = 2 * items_depth l.trees.now + 1

abbrev pub decreases-entries_fit : goal.decreases-entries_fit
decreases-entries_fit l = 2 * members_depth l.entries.now + 1

abbrev pub invariant-trees_fit-loop-part : goal.invariant-trees_fit-loop-part
invariant-trees_fit-loop-part l = TreesFit l.part-items l.part-index l.room

abbrev pub invariant-entries_fit-loop-pair : goal.invariant-entries_fit-loop-pair
invariant-entries_fit-loop-pair l = EntriesFit l.pair-items l.pair-index l.room
