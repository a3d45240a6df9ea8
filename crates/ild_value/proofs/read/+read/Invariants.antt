use Rattle.std.proofs.Common.{◌≡◌, ℕ, ◌+◌, ◌*◌, take, Bool, Some}
use Rattle.std.specs.Prelude.{List}
use Rattle.ild_data.specs.Data.{depth, items_depth, members_depth}
use Rattle.ild_data.specs.Key.{Rises}
use Rattle.ild_data.specs.Seen.{data_of}
use Rattle.ild_schema.specs.Value.{values_list, pairs_list, optionals_list}
use Rattle.ild_typed.specs.OfType.{TestsKeys}
use Rattle.ild_value.proofs.AllOf.{all_of}
use Rattle.ild_value.proofs.Taken.{AreKept, found_depth}
use Rattle.ild_value.proofs.Shows.{read_item, read_pair, read_field}
use Rattle.ild_value.proofs.read.+read.Given as goal

abbrev pub decreases-tree_value : goal.decreases-tree_value
decreases-tree_value l = 4 * depth (data_of l.tree)

abbrev pub decreases-list_value : goal.decreases-list_value
decreases-list_value l = 4 * items_depth l.trees + 3

abbrev pub decreases-elements : goal.decreases-elements
decreases-elements l = 4 * items_depth l.trees + 2

abbrev pub decreases-map_value : goal.decreases-map_value
decreases-map_value l = 4 * members_depth l.entries + 3

abbrev pub decreases-pairs : goal.decreases-pairs
decreases-pairs l = 4 * members_depth l.entries + 2

abbrev pub decreases-fields : goal.decreases-fields
decreases-fields l = 4 * members_depth l.entries + 2

abbrev pub decreases-union_value : goal.decreases-union_value
decreases-union_value l = 4 * members_depth l.entries + 2

abbrev pub decreases-field_value : goal.decreases-field_value
decreases-field_value l = 4 * found_depth l.tree + 1

abbrev pub invariant-elements-loop-tree : goal.invariant-elements-loop-tree
invariant-elements-loop-tree l = (is_key : ℕ → List ℕ → Bool) → TestsKeys l.acc is_key → all_of (read_item l.acc is_key l.elem) l.yielded ≡ Some (values_list l.vals)

abbrev pub invariant-pairs-loop-name : goal.invariant-pairs-loop-name
invariant-pairs-loop-name l = (is_key : ℕ → List ℕ → Bool) → TestsKeys l.acc is_key → all_of (read_pair l.acc is_key l.key l.elem) l.yielded ≡ Some (pairs_list l.vals)

abbrev pub invariant-fields-loop-field : goal.invariant-fields-loop-field
invariant-fields-loop-field l = record {
  read : (is_key : ℕ → List ℕ → Bool) → TestsKeys l.acc is_key → all_of (read_field l.acc is_key l.fn.entries) (take l.field-index l.field-items) ≡ Some (optionals_list l.vals);
  rises : Rises l.left.items;
  kept : AreKept l.def.fields l.field-index l.left.items l.fn.entries;
}
