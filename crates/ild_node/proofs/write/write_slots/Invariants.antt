use Rattle.std.proofs.Common.{◌≡◌, ◌++◌, take, flat_map}
use Rattle.std.specs.List.{AllByRecursion}
use Rattle.ild_data.specs.declared.hamt_shape.HamtShape.{HamtShape}
use Rattle.ild_node.specs.NewSlots.{IsFilledSlot, slot_seen}
use Rattle.ild_node.specs.Written.{IsSound, spelled}
use Rattle.ild_node.proofs.Writing.{slot_items}
use Rattle.ild_node.proofs.write.write_slots.Given as goal

abbrev pub invariant-loop-slot : goal.invariant-loop-slot
invariant-loop-slot l = record {
  so : l.out ≡ l.initial.out ++ spelled (flat_map slot_items (take l.slot-index l.slots));
  sound : (p : HamtShape) → AllByRecursion (IsFilledSlot p) l.slots → AllByRecursion (λ s. IsSound p (slot_seen s)) (take l.slot-index l.slots);
}
