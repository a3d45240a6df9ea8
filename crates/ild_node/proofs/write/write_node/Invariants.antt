use Rattle.std.proofs.Common.{◌≡◌, ◌++◌, take, flat_map}
use Rattle.std.specs.List.{AllByRecursion}
use Rattle.ild_node.specs.NewSlots.{hold_seen}
use Rattle.ild_node.specs.Written.{IsSound, spelled}
use Rattle.ild_node.proofs.Writing.{hold_items}
use Rattle.ild_node.proofs.write.write_node.Given as goal

abbrev pub invariant-loop-slot : goal.invariant-loop-slot
invariant-loop-slot l = record {
  so : l.out ≡ l.initial.out ++ spelled (flat_map hold_items (take l.slot-index l.slots));
  sound : AllByRecursion (λ s. IsSound l.fn.shape (hold_seen s.hold)) (take l.slot-index l.slots);
}
