use Rattle.std.proofs.Common.{false, inl, refl, sym, ap, ◌∙◌, ◌+◌, length, arith}
use Rattle.std.specs.Prelude.{is_some}
use Rattle.std.proofs.lemmas.Result.{err_from_is_err_and}
use Rattle.ild_data.specs.ByteOrder.{without}
use Rattle.ild_hamt_trie.proofs.Way.{find-along}
use Rattle.ild_node.specs.NewSlots.{slot_seen}
use Rattle.ild_hamt.specs.Descending.{trail_blocks}
use Rattle.ild_hamt_climb.proofs.Differing.{differs-without}
use Rattle.ild_hamt.proofs.Leaving.{rest-state, removes-some}
use Rattle.ild_hamt.specs.Edits.{entries_at_end}
use Rattle.ild_hamt.proofs.Edited.{bare-at, edits-begun, edits-none, removes-along}
use Rattle.ild_hamt.proofs.Sparing.{caused-key, caused-memory}
use Rattle.ild_hamt.proofs.trail.Trail.remove_way.Goals as goal

pub returns-clause-removes : goal.returns-clause-removes
returns-clause-removes g c = λ h k slots es from.
    let rest = rw c.in-Some.is at c.in_ok-rows.ensures.trie h k slots es from in
    removes-some h c.args.self.shape k es _ c.rewrite.result _ (ap is_some (sym (find-along h c.args.self.shape k (length (trail_blocks c.args.self) + 1) 0 es)) ∙ rest.0)
    (c.rewrite.ensures.rewrites h k slots es (without k es) from.has from.trail.root (differs-without k es from.trail.root.order) from.trail.hash
    (rest-state c.args.self.shape h k slots es c.in-Some.rows c.args.self (slot_seen c.few_slot.result) c.new.result.items from.trail rest.1 c.few_slot.ensures.same c.new.ensures.items))

pub returns-in-None-clause-removes : goal.returns-in-None-clause-removes
returns-in-None-clause-removes g c = λ h k slots es from.
    let missing = rw c.in-None.is at c.in_ok-rows.ensures.trie h k slots es from in
    (sym (find-along h c.args.self.shape k (length (trail_blocks c.args.self) + 1) 0 es) ∙ missing, refl)

pub returns-in_err-rows-clause-removes : goal.returns-in_err-rows-clause-removes
returns-in_err-rows-clause-removes g c = λ h k slots es from.
    let p = err_from_is_err_and c.from_residual.result c.from_residual.ensures.1 in
    rw (p.1, p.2) (ap is_some (sym (find-along h c.args.self.shape k (length (trail_blocks c.args.self) + 1) 0 es)) ∙ c.in_err-rows.ensures.trie h k slots es from, inl refl)

pub returns-clause-edits : goal.returns-clause-edits
returns-clause-edits g c = λ h k slots last leads.
    let rest = rw c.in-Some.is at c.in_ok-rows.ensures.at_end h k slots last leads in
    removes-along c.args.self.shape k (entries_at_end h c.args.self.shape k (trail_blocks c.args.self) last) (trail_blocks c.args.self) _ c.rewrite.result _ rest.0
    (edits-begun c.args.self.shape (trail_blocks c.args.self) false 0 (slot_seen c.few_slot.result) c.new.result.items _ c.rewrite.result _ (let lt = leads.short in omega (arith, lt))
    (bare-at (slot_seen c.few_slot.result) c.new.result.items c.few_slot.ensures.bare c.new.ensures.items) (c.rewrite.ensures.edits slots leads.has))

pub returns-in-None-clause-edits : goal.returns-in-None-clause-edits
returns-in-None-clause-edits g c = λ h k slots last leads. let missing = rw c.in-None.is at c.in_ok-rows.ensures.at_end h k slots last leads in (missing, refl)

pub returns-in_err-rows-clause-edits : goal.returns-in_err-rows-clause-edits
returns-in_err-rows-clause-edits g c = λ h k slots last leads.
    let p = err_from_is_err_and c.from_residual.result c.from_residual.ensures.1 in
    rw (p.1, p.2) (c.in_err-rows.ensures.at_end h k slots last leads, edits-none c.args.self.shape _ _ _ _ (inl refl))

pub returns-in_err-rows-clause-caused : goal.returns-in_err-rows-clause-caused
returns-in_err-rows-clause-caused g c =
    let p = err_from_is_err_and c.from_residual.result c.from_residual.ensures.1 in
    rw (p.1, p.2) (caused-memory _)

pub returns-in-None-clause-caused : goal.returns-in-None-clause-caused
returns-in-None-clause-caused g c = caused-key _
