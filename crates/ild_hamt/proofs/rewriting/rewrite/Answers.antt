use Rattle.std.proofs.Common.{inl, refl, ◌∙◌}
use Rattle.std.proofs.lemmas.Result.{err_from_is_err_and}
use Rattle.ild_node.specs.NewSlots.{slot_seen}
use Rattle.ild_hamt_climb.proofs.Planning.{climbs-none}
use Rattle.ild_hamt_climb.proofs.Stopping.{way-rewrites}
use Rattle.ild_hamt.specs.Descending.{trail_blocks}
use Rattle.ild_hamt.proofs.Edited.{edits-from}
use Rattle.ild_hamt.proofs.Sparing.{caused-memory, caused-way}
use Rattle.ild_hamt.proofs.rewriting.rewrite.Goals as goal

pub returns-clause-rewrites : goal.returns-clause-rewrites
returns-clause-rewrites g c = λ h k slots es fs has is d hashed state.
    let r = c.in_ok-root.ensures.climbs h k slots es fs has is d hashed state in
    way-rewrites c.args.trail.shape h k fs c.in_ok-root.root c.deref.result.now _ c.put_way.result _ r.0 (c.deref.ensures.value ∙ r.1) c.put_way.ensures.puts

pub returns-in_err-root-clause-rewrites : goal.returns-in_err-root-clause-rewrites
returns-in_err-root-clause-rewrites g c = λ h k slots es fs has is d hashed state.
    let p = err_from_is_err_and c.from_residual.result c.from_residual.ensures.1 in
    rw (p.1, p.2) (inl refl)

pub returns-clause-edits : goal.returns-clause-edits
returns-clause-edits g c = λ slots has.
    edits-from c.args.trail.shape (trail_blocks c.args.trail) (slot_seen c.args.slot) c.args.plan.items c.in_ok-root.root c.climb.new.plan.items c.deref.result.now _ c.put_way.result _ c.in_ok-root.ensures.over (c.in_ok-root.ensures.written slots has)
    c.deref.ensures.value c.put_way.ensures.puts

pub returns-in_err-root-clause-edits : goal.returns-in_err-root-clause-edits
returns-in_err-root-clause-edits g c = λ slots has.
    let p = err_from_is_err_and c.from_residual.result c.from_residual.ensures.1 in
    rw (p.1, p.2) (record { plan = c.args.plan.items; climbs = climbs-none c.args.trail.shape _ _ _; answer = inl refl })

pub returns-clause-caused : goal.returns-clause-caused
returns-clause-caused g c = caused-way c.in_ok-root.root c.deref.result.now _ _ c.put_way.result c.put_way.ensures.puts

pub returns-in_err-root-clause-caused : goal.returns-in_err-root-clause-caused
returns-in_err-root-clause-caused g c =
    let p = err_from_is_err_and c.from_residual.result c.from_residual.ensures.1 in
    rw (p.1, p.2) (caused-memory _)
