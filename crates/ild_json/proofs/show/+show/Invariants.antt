use Rattle.std.proofs.Common.{◌≡◌, ◌+◌, ◌*◌, ◌∷◌, take, false}
use Rattle.std.specs.List.{flat_map, list_any}
use Rattle.json.specs.Token.{begin_array, begin_object}
use Rattle.ild_data.specs.Data.{depth, items_depth, members_depth}
use Rattle.ild_data.specs.Seen.{data_of}
use Rattle.ild_json.specs.Tokens.{Appends}
use Rattle.ild_json.proofs.Shows.{tree_tokens, tree_reserved, held_tokens, held_reserved}
use Rattle.ild_json.proofs.show.+show.Given as goal

abbrev pub decreases-write : goal.decreases-write
decreases-write l = 2 * depth (data_of l.tree.now)

abbrev pub decreases-write_items : goal.decreases-write_items
decreases-write_items l = 2 * items_depth l.trees.now + 1

abbrev pub decreases-write_members : goal.decreases-write_members
decreases-write_members l = 2 * members_depth l.entries.now + 1

abbrev pub invariant-write_items-loop-tree : goal.invariant-write_items-loop-tree
invariant-write_items-loop-tree l = record {
  done : Appends l.fn.out l.out (begin_array ∷ flat_map tree_tokens (take l.tree-index l.tree-items));
  free : list_any tree_reserved (take l.tree-index l.tree-items) ≡ false;
}

abbrev pub invariant-write_members-loop-pair : goal.invariant-write_members-loop-pair
invariant-write_members-loop-pair l = record {
  done : Appends l.fn.out l.out (begin_object ∷ flat_map held_tokens (take l.pair-index l.pair-items));
  free : list_any held_reserved (take l.pair-index l.pair-items) ≡ false;
}
