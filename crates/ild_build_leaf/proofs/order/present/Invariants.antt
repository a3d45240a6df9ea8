use Rattle.std.proofs.Common.{◌≡◌, ◌≤◌, ◌+◌, drop}
use Rattle.ild_schema.specs.Value.{optionals_list}
use Rattle.ild_build_leaf.specs.Kept.{count_present}
use Rattle.ild_build_leaf.proofs.order.present.Given as goal

abbrev pub invariant-loop-i : goal.invariant-loop-i
invariant-loop-i l = record {
  few : l.count ≤ l.i;
  so_far : l.count + count_present (drop l.i (optionals_list l.vals)) ≡ count_present (optionals_list l.vals);
}
