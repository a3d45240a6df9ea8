use Rattle.std.proofs.Common.{◌^◌, length, map, sym, ap, ◌∙◌, arith}
use Rattle.ild_data.specs.Trie.{is_used}
use Rattle.ild_node.specs.NewSlots.{hold_seen, IsFilled, slots_seen, spread}
use Rattle.ild_node.specs.Written.{IsSound}
use Rattle.ild_node.proofs.Nodes.{node-block, empty-sound}
use Rattle.ild_node.proofs.Writing.{hold_items, grown-more, spelled-more, all-more, all-of, all-at, all-spread, length-spread, elements-spread, hold-count, node-done}
use Rattle.ild_node.proofs.write.write_node.Goals as goal

pub loop-slot-preserved : goal.loop-slot-preserved
loop-slot-preserved c = record {
  so = grown-more _ _ _ _ _ _ c.loop-slot.invariant.so c.in_ok-add_hold.ensures.element (spelled-more hold_items c.args.slots.now c.loop-slot.slot-index c.slot-item.result (omega arith) c.slot-item.is);
  sound = all-more (λ s. IsSound c.args.shape (hold_seen s.hold)) c.args.slots.now c.loop-slot.slot-index c.slot-item.result c.loop-slot.invariant.sound (omega arith) c.slot-item.is
      (c.in_ok-add_hold.ensures.sound c.args.shape (all-at (λ s. IsFilled c.args.shape s.hold) c.args.slots.now c.loop-slot.slot-index c.slot-item.result c.requires.filled (omega arith) c.slot-item.is));
}

pub returns : goal.returns
returns c =
    let slots = slots_seen c.args.shape c.args.slots.now in
    node-block c.args.shape slots _ (length-spread 0 (2 ^ c.args.shape.width) c.args.slots.now)
    (all-spread (IsSound c.args.shape) 0 (2 ^ c.args.shape.width) c.args.slots.now (empty-sound c.args.shape) (all-of (λ s. IsSound c.args.shape (hold_seen s.hold)) c.args.slots.now c.loop-slot.slot-index c.loop-slot.invariant.sound (omega arith)))
    (c.finish.ensures ∙ node-done hold_items c.args.slots.now slots c.deref.result.now c.in_ok-out.out c.loop-slot.out (length c.args.slots.now) c.loop-slot.slot-index c.in_ok-out.ensures
    (c.deref.ensures.value ∙ c.in_ok-used.ensures ∙ ap (λ n. map is_used (spread 0 n c.args.slots.now)) c.slots.ensures)
    (elements-spread c.args.shape 0 (2 ^ c.args.shape.width) c.args.slots.now c.requires.rise (omega arith))
    (hold-count c.args.slots.now ∙ ap length (sym (elements-spread c.args.shape 0 (2 ^ c.args.shape.width) c.args.slots.now c.requires.rise (omega arith))))
    c.loop-slot.invariant.so (omega arith))
