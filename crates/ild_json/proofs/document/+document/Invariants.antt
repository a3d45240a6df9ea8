use Rattle.std.proofs.Common.{◌+◌, ◌*◌}
use Rattle.json.specs.Tree as tree
use Rattle.json.specs.Value.{value_view, items_view, members_view}
use Rattle.ild_json.proofs.Documents.{AreItems, AreEntries}
use Rattle.ild_json.proofs.document.+document.Given as goal

abbrev pub decreases-tree_of : goal.decreases-tree_of
decreases-tree_of l = 3 * tree.depth (value_view l.value)

abbrev pub decreases-object_of : goal.decreases-object_of
decreases-object_of l = 3 * tree.members_depth (members_view l.members.items) + 2

abbrev pub decreases-trees_of : goal.decreases-trees_of
decreases-trees_of l = 3 * tree.items_depth (items_view l.items.items) + 1

abbrev pub decreases-entries_of : goal.decreases-entries_of
decreases-entries_of l = 3 * tree.members_depth (members_view l.members.items) + 1

abbrev pub invariant-entries_of-loop-key : goal.invariant-entries_of-loop-key
invariant-entries_of-loop-key l = AreEntries l.yielded l.pairs.items

abbrev pub invariant-trees_of-loop-item : goal.invariant-trees_of-loop-item
invariant-trees_of-loop-item l = AreItems l.yielded l.trees
