use Rattle.std.proofs.Common.{◌≡◌, ◌+◌, Some, [], length, set, refl, rules, arith}
use Rattle.std.proofs.lemmas.Result.{err_from_is_err_and}
use Rattle.std.proofs.lemmas.List.Elements.{All-pop}
use Rattle.ild_data.specs.Spell.{spell}
use Rattle.ild_data.specs.Trie.{node_data}
use Rattle.ild_hamt_trie.specs.Way.{along}
use Rattle.ild_hamt_trie.proofs.Climb.{in_order-along}
use Rattle.ild_node.specs.NewSlots.{slot_seen}
use Rattle.ild_node_slots.proofs.Shapes.{levels_some}
use Rattle.ild_hamt_climb.specs.NodeBytes.{IsNodeBytes}
use Rattle.ild_hamt_climb.specs.Rewriting.{HasRoot, way_up}
use Rattle.ild_hamt_climb.proofs.Planning.{climbed-first, climbed-more, climbed-last, ok-all, ok-written, ok-spelled}
use Rattle.ild_hamt_climb.proofs.Upward.{state-last, state-slots, state-more, state-done, ok-done}
use Rattle.ild_hamt_climb.proofs.lifting.climb.Goals as goal

pub loop-block-preserved : goal.loop-block-preserved
loop-block-preserved c = (
  (All-pop (IsNodeBytes c.args.shape) c.loop-block.blocks.items c.pop.new.self.items (Some c.in-Some.block) c.in-Some.ensures.items c.loop-block.invariant.0).0,
  c.in_ok-slot.ensures.filled,
  λ h k es fs d hashed start.
      let was = c.loop-block.invariant.2 h k es fs d hashed start in
      let rest = c.pop.new.self.items in
      let last = state-last h c.args.shape k es fs c.loop-block.blocks.items rest c.in-Some.block c.in-Some.block c.loop-block.depth (slot_seen c.loop-block.slot) c.loop-block.plan.items was c.in-Some.ensures.items refl in
      let slots = state-slots h c.args.shape k c.args.hash.now es fs c.loop-block.blocks.items rest c.in-Some.block c.loop-block.depth (slot_seen c.loop-block.slot) c.loop-block.plan.items d hashed was last in
      state-more h c.args.shape k es fs c.loop-block.blocks.items rest c.in-Some.block c.in-Some.block c.loop-block.depth c.saturating_sub-depth.result (slot_seen c.loop-block.slot) (slot_seen c.in_ok-slot.slot)
      c.loop-block.plan.items c.lift_block.new.plan.items was c.in-Some.ensures.items last c.saturating_sub-depth.ensures
      (c.in_ok-slot.ensures.lifts h last.at.less last.at.slots (along h c.args.shape k (length rest + 1) 0 fs) last.at.node (omega (arith, was.deep, last.long, last.at.left_is)) (in_order-along h c.args.shape k (length rest + 1) 0 fs d.now) slots),
  let n = c.in_ok-slot.ensures.node in
      climbed-more c.args.shape _ _ _ c.loop-block.blocks.items c.pop.new.self.items c.in-Some.block n.slots (slot_seen c.loop-block.slot) (slot_seen c.in_ok-slot.slot) c.loop-block.plan.items c.lift_block.new.plan.items
      c.loop-block.invariant.3 c.in-Some.ensures.items (record { is = n.is; form = n.form }) (c.in_ok-slot.ensures.over n.slots (record { is = n.is; form = n.form })),
)

pub returns-clause-climbs : goal.returns-clause-climbs
returns-clause-climbs c = λ h k slots es fs has is d hashed start.
    let none : c.loop-block.blocks.items ≡ [] = search rules in
    ok-done c.exchanged.result (spell (node_data (set slots c.index_at.result (slot_seen c.loop-block.slot)))) (λ b. HasRoot h c.args.shape fs b × (c.loop-block.plan.items ≡ way_up h c.args.shape k fs)) (ok-spelled c.args.shape c.exchanged.result _ (c.exchanged.ensures slots has (let e = has.form.many in let small = c.index_at.ensures.slot in omega arith)))
    (λ b writes. state-done h c.args.shape k c.args.hash.now slots es fs c.loop-block.blocks.items c.loop-block.depth c.index_at.result (slot_seen c.loop-block.slot) c.loop-block.plan.items b is d hashed
    (c.loop-block.invariant.2 h k es fs d hashed start) none (c.index_at.ensures.index (levels_some c.args.shape)) writes)

pub returns-in_err-slot-clause-climbs : goal.returns-in_err-slot-clause-climbs
returns-in_err-slot-clause-climbs c = λ h k slots es fs has is d hashed start.
    let p = err_from_is_err_and c.from_residual.result c.from_residual.ensures.1 in
    rw p.1 tt

pub returns-clause-over : goal.returns-clause-over
returns-clause-over c = ok-all c.exchanged.result _ (climbed-last c.args.shape _ _ _ c.loop-block.blocks.items (slot_seen c.loop-block.slot) c.loop-block.plan.items c.loop-block.invariant.3)

pub returns-clause-written : goal.returns-clause-written
returns-clause-written c = λ slots has. ok-written c.args.shape c.exchanged.result _ (c.exchanged.ensures slots has (let e = has.form.many in let small = c.index_at.ensures.slot in omega arith))

pub returns-in_err-slot-clause-over : goal.returns-in_err-slot-clause-over
returns-in_err-slot-clause-over c =
    let p = err_from_is_err_and c.from_residual.result c.from_residual.ensures.1 in
    rw p.1 tt

pub returns-in_err-slot-clause-written : goal.returns-in_err-slot-clause-written
returns-in_err-slot-clause-written c = λ slots has.
    let p = err_from_is_err_and c.from_residual.result c.from_residual.ensures.1 in
    rw p.1 tt

pub loop-block-init : goal.loop-block-init
loop-block-init c = (c.requires.known, c.requires.filled, λ h k es fs d hashed start. start, climbed-first c.args.shape _ _ _)

pub lift_block-requires-clause-known : goal.lift_block-requires-clause-known
lift_block-requires-clause-known c = (All-pop (IsNodeBytes c.args.shape) c.loop-block.blocks.items c.pop.new.self.items (Some c.in-Some.block) c.in-Some.ensures.items c.loop-block.invariant.0).1
