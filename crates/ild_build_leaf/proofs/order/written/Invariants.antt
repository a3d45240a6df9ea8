use Rattle.std.proofs.Common.{◌≡◌, ◌≤◌, ◌+◌, drop}
use Rattle.ild_schema.specs.Value.{optionals_list}
use Rattle.ild_build_leaf.specs.Kept.{count_written}
use Rattle.ild_build_leaf.proofs.order.written.Given as goal

abbrev pub invariant-loop-i : goal.invariant-loop-i
invariant-loop-i l = record {
  few : l.count ≤ l.i;
  so_far : l.count + count_written (drop l.i l.fields) (drop l.i (optionals_list l.vals)) ≡ count_written l.fields (optionals_list l.vals);
}
