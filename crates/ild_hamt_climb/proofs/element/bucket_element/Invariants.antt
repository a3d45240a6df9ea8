use Rattle.std.proofs.Common.{◌≡◌, ◌++◌, take, flat_map}
use Rattle.ild_node.specs.Written.{spelled}
use Rattle.ild_node.proofs.Writing.{row_items}
use Rattle.ild_hamt_climb.proofs.element.bucket_element.Given as goal

abbrev pub invariant-loop-row : goal.invariant-loop-row
invariant-loop-row l = l.out ≡ l.initial.out ++ spelled (flat_map row_items (take l.row-index l.rows))
