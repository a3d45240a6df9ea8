use Rattle.std.proofs.Common.{subst, arith}
use Rattle.std.proofs.Math.Logic.{∥∥₁_map}
use Rattle.ild_cbor.specs.Nodes.{HasData}
use Rattle.ild_view.specs.View.{slot_of, table_of}
use Rattle.ild_path_ends.proofs.Keying.{key_level, key_set, set_none}
use Rattle.ild_path_ends.proofs.entry.set_key.Goals as goal

pub returns-clause-sets : goal.returns-clause-sets
returns-clause-sets g c = λ is_key was k told x root.
    let h = g.H.KeyHash.hash_of in
    c.set_entry.ensures.sets is_key was x.level.less x.level.v x.w x.level.t x.d x.u x.level.key.slot x.level.key.elem x.level.key.ps x.level.key.es k told
    (key_level h is_key was c.args.front.now k c.args.trail c.args.level x.level root) (key_set h is_key was c.args.front.now k c.args.trail c.args.level c.args.item.now x)
    (subst (HasData c.node.result) (c.in-Some.ensures.data x.d x.stands) c.node.ensures.stands)

pub returns-in_default-clause-sets : goal.returns-in_default-clause-sets
returns-in_default-clause-sets g c = set_none g.H.KeyHash.hash_of (table_of c.args.level) (slot_of c.args.level) c.args.level c.args.front.now c.args.trail c.args.item.now (g.K.Store.moment c.args.store.now)

pub set_entry-requires-clause-nests : goal.set_entry-requires-clause-nests
set_entry-requires-clause-nests g c = λ t stands.
    let low = c.node.ensures.nests t stands in
    let room = c.in-Some.ensures.room in
    omega (arith, low, room)

pub entry_of-requires : goal.entry_of-requires
entry_of-requires g c = ∥∥₁_map c.hamt_at-map.ensures.hamt (λ x. (x.tree, x.is))
