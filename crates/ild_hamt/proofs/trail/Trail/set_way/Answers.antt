use Rattle.std.proofs.Common.{◌≡◌, ◌+◌, ◌-◌, inl, refl, sym, ap, ◌∙◌, length, arith}
use Rattle.std.specs.FinMap.{put}
use Rattle.std.proofs.lemmas.Result.{err_from_is_err_and}
use Rattle.ild_data.specs.ByteOrder.{bytewise}
use Rattle.ild_hamt_climb.proofs.Differing.{differs-put}
use Rattle.ild_hamt.proofs.Leaving.{rows-put, others-end, end-state, end-stopped}
use Rattle.ild_data.specs.TrieShape.{trie_levels}
use Rattle.ild_node.specs.NewSlots.{slot_seen}
use Rattle.ild_node_slots.proofs.Shapes.{levels_few}
use Rattle.ild_hamt.specs.Descending.{trail_blocks}
use Rattle.ild_hamt.specs.Edits.{entries_at_end, is_full_at_end}
use Rattle.ild_hamt.proofs.Edited.{edits-begun, edits-none, slot-stopped}
use Rattle.ild_hamt.proofs.Hashed.{others-put}
use Rattle.ild_hamt.proofs.Planned.{along-put, begun-at, end-order, end-small}
use Rattle.ild_hamt.proofs.Sparing.{caused-memory, caused-plan}
use Rattle.ild_hamt.proofs.trail.Trail.set_way.Goals as goal

pub returns-in_err-rows-clause-sets : goal.returns-in_err-rows-clause-sets
returns-in_err-rows-clause-sets g c = λ h k v slots es from stands room.
    let p = err_from_is_err_and c.from_residual.result c.from_residual.ensures.1 in
    rw (p.1, p.2) (inl refl)

pub returns-in_err-put-clause-sets : goal.returns-in_err-put-clause-sets
returns-in_err-put-clause-sets g c = λ h k v slots es from stands room.
    let p = err_from_is_err_and c.from_residual-in_err-put.result c.from_residual-in_err-put.ensures.1 in
    rw (p.1, p.2) (inl refl)

pub returns-in_err-slot-clause-sets : goal.returns-in_err-slot-clause-sets
returns-in_err-slot-clause-sets g c = λ h k v slots es from stands room.
    let p = err_from_is_err_and c.from_residual-in_err-slot.result c.from_residual-in_err-slot.ensures.1 in
    let rows = rows-put c.args.self.shape h k c.as_str.result.now v slots es c.in_ok-rows.rows c.put.new.self c.args.self from.trail (c.in_ok-rows.ensures.trie h k slots es from) (c.as_str.ensures.same ∙ from.trail.key) (c.in_ok-put.ensures.ok v stands) in
    rw (p.1, p.2) (end-stopped c.args.self.shape h k v slots es c.put.new.self (put bytewise k v es) c.args.self c.in_err-slot.field-0.0 c.saturating_add-depth.result c.new-plan.result.items c.slot_of.new.plan.items _ from.trail rows
    (let short = from.trail.short in let deep = from.trail.depth in let up = c.saturating_add-depth.ensures in let all = levels_few c.args.self.shape in omega arith) room
    (c.in_err-slot.ensures.plans h (from.trail.hash ∙ ap h (sym from.trail.key)) (others-end c.args.self.shape h k v slots es c.args.self c.put.new.self from.trail rows)))

pub returns-clause-sets : goal.returns-clause-sets
returns-clause-sets g c = λ h k v slots es from stands room.
    let rows = rows-put c.args.self.shape h k c.as_str.result.now v slots es c.in_ok-rows.rows c.put.new.self c.args.self from.trail (c.in_ok-rows.ensures.trie h k slots es from) (c.as_str.ensures.same ∙ from.trail.key) (c.in_ok-put.ensures.ok v stands) in
    c.rewrite.ensures.rewrites h k slots es (put bytewise k v es) from.has from.trail.root (differs-put k v es from.trail.root.order) from.trail.hash
    (end-state c.args.self.shape h k v slots es c.put.new.self c.args.self c.in_ok-slot.slot c.saturating_add-depth.result c.new-plan.result.items c.slot_of.new.plan.items from.trail rows
    (let short = from.trail.short in let deep = from.trail.depth in let up = c.saturating_add-depth.ensures in let all = levels_few c.args.self.shape in omega arith) c.new-plan.ensures.items
    (c.in_ok-slot.ensures.plans h (from.trail.hash ∙ ap h (sym from.trail.key)) (others-end c.args.self.shape h k v slots es c.args.self c.put.new.self from.trail rows)))

pub returns-in_err-rows-clause-edits : goal.returns-in_err-rows-clause-edits
returns-in_err-rows-clause-edits g c = λ h k v slots last leads stands.
    let p = err_from_is_err_and c.from_residual.result c.from_residual.ensures.1 in
    rw (p.1, p.2) (edits-none c.args.self.shape _ _ _ _ (inl refl))

pub returns-in_err-put-clause-edits : goal.returns-in_err-put-clause-edits
returns-in_err-put-clause-edits g c = λ h k v slots last leads stands.
    let p = err_from_is_err_and c.from_residual-in_err-put.result c.from_residual-in_err-put.ensures.1 in
    rw (p.1, p.2) (edits-none c.args.self.shape _ _ _ _ (inl refl))

pub returns-in_err-slot-clause-edits : goal.returns-in_err-slot-clause-edits
returns-in_err-slot-clause-edits g c = λ h k v slots last leads stands.
    let p = err_from_is_err_and c.from_residual-in_err-slot.result c.from_residual-in_err-slot.ensures.1 in
    let order = end-order c.args.self.shape c.args.root c.args.self h k slots last leads in
    let small = end-small c.args.self.shape c.args.root c.args.self h k slots last leads in
    let rows = along-put k c.as_str.result.now v (entries_at_end h c.args.self.shape k (trail_blocks c.args.self) last) c.in_ok-rows.rows c.put.new.self order (c.in_ok-rows.ensures.at_end h k slots last leads) (c.as_str.ensures.same ∙ leads.trail.key) (c.in_ok-put.ensures.ok v stands) in
    let hashes = others-put h k c.args.self.key v (entries_at_end h c.args.self.shape k (trail_blocks c.args.self) last) c.put.new.self c.args.self.others.items order leads.trail.others leads.trail.key rows in
    let deep : c.saturating_add-depth.result ≡ length (trail_blocks c.args.self) + 1 = (let lt = leads.short in let at = leads.trail.depth in let up = c.saturating_add-depth.ensures in let all = levels_few c.args.self.shape in omega arith) in
    rw (p.1, p.2) (slot-stopped c.args.self.shape h k v (trail_blocks c.args.self) last c.saturating_add-depth.result c.put.new.self c.in_err-slot.field-0.0 c.new-plan.result.items c.slot_of.new.plan.items _ order small deep rows
    (c.in_err-slot.ensures.plans h (leads.trail.hash ∙ ap h (sym leads.trail.key)) hashes))

pub returns-clause-edits : goal.returns-clause-edits
returns-clause-edits g c = λ h k v slots last leads stands.
    let order = end-order c.args.self.shape c.args.root c.args.self h k slots last leads in
    let small = end-small c.args.self.shape c.args.root c.args.self h k slots last leads in
    let rows = along-put k c.as_str.result.now v (entries_at_end h c.args.self.shape k (trail_blocks c.args.self) last) c.in_ok-rows.rows c.put.new.self order (c.in_ok-rows.ensures.at_end h k slots last leads) (c.as_str.ensures.same ∙ leads.trail.key) (c.in_ok-put.ensures.ok v stands) in
    let hashes = others-put h k c.args.self.key v (entries_at_end h c.args.self.shape k (trail_blocks c.args.self) last) c.put.new.self c.args.self.others.items order leads.trail.others leads.trail.key rows in
    let deep : c.saturating_add-depth.result ≡ length (trail_blocks c.args.self) + 1 = (let lt = leads.short in let at = leads.trail.depth in let up = c.saturating_add-depth.ensures in let all = levels_few c.args.self.shape in omega arith) in
    edits-begun c.args.self.shape (trail_blocks c.args.self) (is_full_at_end h c.args.self.shape k (trail_blocks c.args.self) last) (trie_levels c.args.self.shape - c.saturating_add-depth.result) (slot_seen c.in_ok-slot.slot) c.slot_of.new.plan.items _ c.rewrite.result _
    (let lt = leads.short in omega (arith, deep, lt))
    (begun-at c.args.self.shape h k v (trie_levels c.args.self.shape - c.saturating_add-depth.result) c.saturating_add-depth.result (entries_at_end h c.args.self.shape k (trail_blocks c.args.self) last) c.put.new.self c.in_ok-slot.slot c.new-plan.result.items c.slot_of.new.plan.items order small rows c.new-plan.ensures.items
    (c.in_ok-slot.ensures.plans h (leads.trail.hash ∙ ap h (sym leads.trail.key)) hashes))
    (c.rewrite.ensures.edits slots leads.has)

pub returns-in_err-rows-clause-caused : goal.returns-in_err-rows-clause-caused
returns-in_err-rows-clause-caused g c =
    let p = err_from_is_err_and c.from_residual.result c.from_residual.ensures.1 in
    rw (p.1, p.2) (caused-memory _)

pub returns-in_err-put-clause-caused : goal.returns-in_err-put-clause-caused
returns-in_err-put-clause-caused g c =
    let p = err_from_is_err_and c.from_residual-in_err-put.result c.from_residual-in_err-put.ensures.1 in
    rw (p.1, p.2) (caused-memory _)

pub returns-in_err-slot-clause-caused : goal.returns-in_err-slot-clause-caused
returns-in_err-slot-clause-caused g c =
    let p = err_from_is_err_and c.from_residual-in_err-slot.result c.from_residual-in_err-slot.ensures.1 in
    rw (p.1, p.2) (caused-plan _ c.in_err-slot.field-0.0)
