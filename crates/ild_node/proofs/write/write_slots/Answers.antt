use Rattle.std.proofs.Common.{Bool, map, sym, ap, ◌∙◌, arith}
use Rattle.std.specs.List.{count_by}
use Rattle.std.proofs.lemmas.List.{length-map}
use Rattle.ild_node.specs.NewSlots.{slot_seen, IsFilledSlot}
use Rattle.ild_node.specs.Written.{IsSound}
use Rattle.ild_node.proofs.Nodes.{node-block}
use Rattle.ild_node.proofs.Writing.{slot_items, grown-more, spelled-more, all-more, all-of, all-at, all-map, all-items, count-used, node-done}
use Rattle.ild_node.proofs.write.write_slots.Goals as goal

pub loop-slot-preserved : goal.loop-slot-preserved
loop-slot-preserved c = record {
  so = grown-more _ _ _ _ _ _ c.loop-slot.invariant.so c.in_ok-add_slot.ensures.element (spelled-more slot_items c.args.slots.now c.loop-slot.slot-index c.slot-item.result (omega arith) c.slot-item.is);
  sound = λ p filled.
      all-more (λ s. IsSound p (slot_seen s)) c.args.slots.now c.loop-slot.slot-index c.slot-item.result (c.loop-slot.invariant.sound p filled) (omega arith) c.slot-item.is
      (c.in_ok-add_slot.ensures.sound p (all-at (λ s. IsFilledSlot p s) c.args.slots.now c.loop-slot.slot-index c.slot-item.result filled (omega arith) c.slot-item.is));
}

pub returns : goal.returns
returns c = λ p many filled.
    let slots = map slot_seen c.args.slots.now in
    let used = c.deref.ensures.value ∙ c.in_ok-used.ensures in
    let again = c.deref-2.ensures.value ∙ c.in_ok-used.ensures in
    node-block p slots _ (length-map c.args.slots.now slot_seen ∙ many)
    (all-map (IsSound p) slot_seen c.args.slots.now (all-of (λ s. IsSound p (slot_seen s)) c.args.slots.now c.loop-slot.slot-index (c.loop-slot.invariant.sound p filled) (omega arith)))
    (c.finish.ensures ∙ node-done slot_items c.args.slots.now slots c.deref.result.now c.in_ok-out.out c.loop-slot.out c.count_of.result c.loop-slot.slot-index c.in_ok-out.ensures used
    (sym (all-items slot_seen c.args.slots.now)) (c.count_of.ensures ∙ ap (count_by (λ (b : Bool). b)) again ∙ count-used slots)
    c.loop-slot.invariant.so (omega arith))
