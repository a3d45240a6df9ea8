use Rattle.std.proofs.Common.{ap, subst, ◌∙◌}
use Rattle.std.proofs.Math.Logic.{∥∥₁_elim}
use Rattle.std.proofs.Props.{props}
use Rattle.std.specs.Prelude.{is_some}
use Rattle.std.specs.FinMap.{put}
use Rattle.std.proofs.lemmas.Result.{err_from_is_err_and}
use Rattle.ild_data.specs.ByteOrder.{bytewise}
use Rattle.ild_data.specs.Spell.{spell}
use Rattle.ild_typed.specs.Hamt.{root_map}
use Rattle.ild_hamt.specs.Rewriting.{IsTrailFrom}
use Rattle.ild_schema.specs.Value.{hamt}
use Rattle.ild_path_entered.specs.Entered.{with_entry}
use Rattle.ild_path_reroot.specs.Reroots.{MakesRoot}
use Rattle.ild_path_reroot.proofs.Rerooting.{edit_done, edit_failed, put_ready, same_node, root_has}
use Rattle.ild_path_reroot.proofs.Causing.{caused_after}
use Rattle.ild_path_reroot.proofs.edit.put_entry.Goals as goal

-- src/edit.rt:42:16
pub returns-in_err-node-clause-puts : goal.returns-in_err-node-clause-puts
returns-in_err-node-clause-puts g c = λ rows was s elem t d x ps es k room w view told at new stands.
    let has = root_has g.H.KeyHash.hash_of at.hamt.3 rows was elem ps t es _ c.in-Some.root at.trie (c.in-Some.ensures (hamt t) view) in
    let from : IsTrailFrom at.hamt.3 c.in-Some.root c.args.trail g.H.KeyHash.hash_of k has.slots es = record { has = has.has; trail = at.trail has.slots has.root } in
    let ready = put_ready g.H.KeyHash.hash_of rows was s elem t d x ps es k room w c.args.trail at new in
    let p = err_from_is_err_and c.from_residual.result c.from_residual.ensures.1 in
    rw (p.1, p.2) (edit_failed g.H.KeyHash.hash_of at.hamt.3 rows was s room (with_entry k w ps) x k es (put bytewise k d es) ready (g.K.Store.moment c.args.store.now) (g.K.Store.moment c.set.new.store) told c.in_err-node.field-0.0
    (c.in_err-node.ensures.sets at.hamt.3 k d has.slots es from stands (ap is_some ready.has.is_node)))

-- src/edit.rt:24:1
pub returns-clause-puts : goal.returns-clause-puts
returns-clause-puts g c = λ rows was s elem t d x ps es k room w view told at new stands.
    let has = root_has g.H.KeyHash.hash_of at.hamt.3 rows was elem ps t es _ c.in-Some.root at.trie (c.in-Some.ensures (hamt t) view) in
    let from : IsTrailFrom at.hamt.3 c.in-Some.root c.args.trail g.H.KeyHash.hash_of k has.slots es = record { has = has.has; trail = at.trail has.slots has.root } in
    let ready = put_ready g.H.KeyHash.hash_of rows was s elem t d x ps es k room w c.args.trail at new in
    let sets = c.in_ok-node.ensures.sets at.hamt.3 k d has.slots es from stands (ap is_some ready.has.is_node) in
    let after = c.in_ok-node.ensures.held at.hamt.3 k d has.slots es from stands (ap is_some ready.has.is_node) in
    let gives = c.in_ok-node.ensures.gives at.hamt.3 k d has.slots es from stands (ap is_some ready.has.is_node) in
    edit_done g.H.KeyHash.hash_of at.hamt.3 rows was s room (with_entry k w ps) x k es (put bytewise k d es) ready (g.K.Store.moment c.args.store.now) (g.K.Store.moment c.set.new.store) told c.in_ok-node.node sets after gives c.root_around.result
    (subst (λ q. MakesRoot (spell (root_map q ready.has.node)) c.root_around.result) (c.shape-shape.ensures ∙ has.has.shape) (c.root_around.ensures.made ready.has.node (same_node g.H.KeyHash.hash_of at.hamt.3 rows was s room (with_entry k w ps) x k es (put bytewise k d es) ready (g.K.Store.moment c.args.store.now) (g.K.Store.moment c.set.new.store) c.in_ok-node.node sets.0)))

-- the view is that of a HAMT
pub unreachable-requires : goal.unreachable-requires
unreachable-requires g c = ∥∥₁_elim c.requires.hamt (hlevel props) (λ x. c.in-None.ensures (hamt x.tree) x.is)

pub returns-clause-caused : goal.returns-clause-caused
returns-clause-caused g c = caused_after _ _ c.in_ok-node.node c.root_around.result c.in_ok-node.ensures.caused c.root_around.ensures.fault
