use Rattle.std.proofs.lemmas.Result.{err_from_is_err_and}
use Rattle.ild_typed_fronts.specs.Front.{front}
use Rattle.ild_view.specs.View.{slot_of, table_of}
use Rattle.ild_path_entered.specs.Entered.{with_entry}
use Rattle.ild_path_hop.specs.Levels.{with_set}
use Rattle.ild_path_hop.proofs.Leveling.{X, Less, edits, hamt_held, hamt_put, hamt_view, level_done, level_failed, root_view, tree_x}
use Rattle.ild_path_reroot.proofs.Causing.{caused_after}
use Rattle.ild_path_hop.proofs.level.set_entry.Goals as goal

pub returns-in_err-map-clause-sets : goal.returns-in_err-map-clause-sets
returns-in_err-map-clause-sets g c = λ is_key was room v w t d u slot elem ps es k told level set stands.
    let y = hamt_view g.H.KeyHash.hash_of is_key was room v w t d u c.args.root.now c.args.front.now slot elem ps es k c.args.trail level set c.hamt_at-hamt.result
    (c.hamt_at-hamt.ensures.here (front g.H.KeyHash.hash_of (table_of c.args.root.now) (slot_of c.args.root.now) v)
    (root_view g.H.KeyHash.hash_of is_key was room v w t d u c.args.root.now c.args.front.now slot elem ps es k c.args.trail level set)) in
    let p = err_from_is_err_and c.from_residual.result c.from_residual.ensures.1 in
    rw (p.1, p.2) (level_failed g.H.KeyHash.hash_of is_key was room v w t d u c.args.root.now c.args.front.now slot elem ps es k c.args.trail level set (g.K.Store.moment c.args.store.now) (g.K.Store.moment c.put_entry.new.store)
    told c.in_err-map.field-0.0
    (c.in_err-map.ensures.puts (table_of c.args.root.now) was slot elem set.root d (X g.H.KeyHash.hash_of is_key was room v w t d u c.args.root.now c.args.front.now slot elem ps es k c.args.trail level set) ps es k
    (Less g.H.KeyHash.hash_of is_key was room v w t d u c.args.root.now c.args.front.now slot elem ps es k c.args.trail level set) w y told
    (hamt_held g.H.KeyHash.hash_of is_key was room v w t d u c.args.root.now c.args.front.now slot elem ps es k c.args.trail level set)
    (hamt_put g.H.KeyHash.hash_of is_key was room v w t d u c.args.root.now c.args.front.now slot elem ps es k c.args.trail level set) stands))

pub returns-clause-sets : goal.returns-clause-sets
returns-clause-sets g c = λ is_key was room v w t d u slot elem ps es k told level set stands.
    let y = hamt_view g.H.KeyHash.hash_of is_key was room v w t d u c.args.root.now c.args.front.now slot elem ps es k c.args.trail level set c.hamt_at-hamt.result
    (c.hamt_at-hamt.ensures.here (front g.H.KeyHash.hash_of (table_of c.args.root.now) (slot_of c.args.root.now) v)
    (root_view g.H.KeyHash.hash_of is_key was room v w t d u c.args.root.now c.args.front.now slot elem ps es k c.args.trail level set)) in
    let x = c.in_ok-map.ensures.puts (table_of c.args.root.now) was slot elem set.root d (X g.H.KeyHash.hash_of is_key was room v w t d u c.args.root.now c.args.front.now slot elem ps es k c.args.trail level set) ps es k
    (Less g.H.KeyHash.hash_of is_key was room v w t d u c.args.root.now c.args.front.now slot elem ps es k c.args.trail level set) w y told
    (hamt_held g.H.KeyHash.hash_of is_key was room v w t d u c.args.root.now c.args.front.now slot elem ps es k c.args.trail level set)
    (hamt_put g.H.KeyHash.hash_of is_key was room v w t d u c.args.root.now c.args.front.now slot elem ps es k c.args.trail level set) stands in
    level_done g.H.KeyHash.hash_of is_key was room v w t d u c.args.root.now c.args.front.now slot elem ps es k c.args.trail level set (g.K.Store.moment c.args.store.now) (g.K.Store.moment c.put_entry.new.store) told
    c.in_ok-map.map x c.with_root.result
    (c.with_root.ensures.made is_key (front g.H.KeyHash.hash_of (table_of c.args.root.now) (slot_of c.args.root.now) v) (front g.H.KeyHash.hash_of (table_of c.args.root.now) slot (with_entry k w ps))
    (front g.H.KeyHash.hash_of (table_of c.args.root.now) (slot_of c.args.root.now) (with_set (table_of c.args.root.now) (slot_of c.args.root.now) v c.args.front.now ps k w)) t
    (X g.H.KeyHash.hash_of is_key was room v w t d u c.args.root.now c.args.front.now slot elem ps es k c.args.trail level set) u x.answer.0
    (tree_x g.H.KeyHash.hash_of is_key was room v w t d u c.args.root.now c.args.front.now slot elem ps es k c.args.trail level set)
    (edits g.H.KeyHash.hash_of is_key was room v w t d u c.args.root.now c.args.front.now slot elem ps es k c.args.trail level set))

pub returns-clause-caused : goal.returns-clause-caused
returns-clause-caused g c = caused_after _ _ c.in_ok-map.map c.with_root.result c.in_ok-map.ensures.caused c.with_root.ensures.fault
