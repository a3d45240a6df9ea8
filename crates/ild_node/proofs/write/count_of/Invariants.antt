use Rattle.std.proofs.Common.{◌≡◌, ◌≤◌, take}
use Rattle.std.specs.List.{count_by}
use Rattle.std.specs.Prelude.{Bool}
use Rattle.ild_node.proofs.write.count_of.Given as goal

abbrev pub invariant-loop-on : goal.invariant-loop-on
invariant-loop-on l = record { count : l.count ≡ count_by (λ (b : Bool). b) (take l.on-index l.used); few : l.count ≤ l.on-index }
