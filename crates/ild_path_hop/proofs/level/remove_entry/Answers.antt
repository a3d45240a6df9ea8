use Rattle.std.proofs.lemmas.Result.{err_from_is_err_and}
use Rattle.ild_typed_fronts.specs.Front.{front}
use Rattle.ild_view.specs.View.{slot_of, table_of}
use Rattle.ild_path_entered.specs.Entered.{without_entry}
use Rattle.ild_path_hop.specs.Levels.{with_cut}
use Rattle.ild_path_hop.proofs.Cutting.{X, Less, edits, hamt_held, hamt_cut, hamt_view, level_done, level_failed, root_view, tree_x}
use Rattle.ild_path_reroot.proofs.Causing.{caused_after}
use Rattle.ild_path_hop.proofs.level.remove_entry.Goals as goal

pub returns-in_err-map-clause-cuts : goal.returns-in_err-map-clause-cuts
returns-in_err-map-clause-cuts g c = λ is_key was room v t u slot elem ps es k told level set.
    let y = hamt_view g.H.KeyHash.hash_of is_key was room v t u c.args.root.now c.args.front.now slot elem ps es k c.args.trail level set c.hamt_at-hamt.result
    (c.hamt_at-hamt.ensures.here (front g.H.KeyHash.hash_of (table_of c.args.root.now) (slot_of c.args.root.now) v)
    (root_view g.H.KeyHash.hash_of is_key was room v t u c.args.root.now c.args.front.now slot elem ps es k c.args.trail level set)) in
    let p = err_from_is_err_and c.from_residual.result c.from_residual.ensures.1 in
    rw (p.1, p.2) (level_failed g.H.KeyHash.hash_of is_key was room v t u c.args.root.now c.args.front.now slot elem ps es k c.args.trail level set (g.K.Store.moment c.args.store.now) (g.K.Store.moment c.cut_entry.new.store) told
    c.in_err-map.field-0.0
    (c.in_err-map.ensures.cuts (table_of c.args.root.now) was slot elem set.root (X g.H.KeyHash.hash_of is_key was room v t u c.args.root.now c.args.front.now slot elem ps es k c.args.trail level set) ps es k
    (Less g.H.KeyHash.hash_of is_key was room v t u c.args.root.now c.args.front.now slot elem ps es k c.args.trail level set) y told
    (hamt_held g.H.KeyHash.hash_of is_key was room v t u c.args.root.now c.args.front.now slot elem ps es k c.args.trail level set)
    (hamt_cut g.H.KeyHash.hash_of is_key was room v t u c.args.root.now c.args.front.now slot elem ps es k c.args.trail level set)))

pub returns-clause-cuts : goal.returns-clause-cuts
returns-clause-cuts g c = λ is_key was room v t u slot elem ps es k told level set.
    let y = hamt_view g.H.KeyHash.hash_of is_key was room v t u c.args.root.now c.args.front.now slot elem ps es k c.args.trail level set c.hamt_at-hamt.result
    (c.hamt_at-hamt.ensures.here (front g.H.KeyHash.hash_of (table_of c.args.root.now) (slot_of c.args.root.now) v)
    (root_view g.H.KeyHash.hash_of is_key was room v t u c.args.root.now c.args.front.now slot elem ps es k c.args.trail level set)) in
    let x = c.in_ok-map.ensures.cuts (table_of c.args.root.now) was slot elem set.root (X g.H.KeyHash.hash_of is_key was room v t u c.args.root.now c.args.front.now slot elem ps es k c.args.trail level set) ps es k
    (Less g.H.KeyHash.hash_of is_key was room v t u c.args.root.now c.args.front.now slot elem ps es k c.args.trail level set) y told
    (hamt_held g.H.KeyHash.hash_of is_key was room v t u c.args.root.now c.args.front.now slot elem ps es k c.args.trail level set)
    (hamt_cut g.H.KeyHash.hash_of is_key was room v t u c.args.root.now c.args.front.now slot elem ps es k c.args.trail level set) in
    level_done g.H.KeyHash.hash_of is_key was room v t u c.args.root.now c.args.front.now slot elem ps es k c.args.trail level set (g.K.Store.moment c.args.store.now) (g.K.Store.moment c.cut_entry.new.store) told c.in_ok-map.map
    x c.with_root.result
    (c.with_root.ensures.made is_key (front g.H.KeyHash.hash_of (table_of c.args.root.now) (slot_of c.args.root.now) v) (front g.H.KeyHash.hash_of (table_of c.args.root.now) slot (without_entry k ps))
    (front g.H.KeyHash.hash_of (table_of c.args.root.now) (slot_of c.args.root.now) (with_cut (table_of c.args.root.now) (slot_of c.args.root.now) v c.args.front.now ps k)) t
    (X g.H.KeyHash.hash_of is_key was room v t u c.args.root.now c.args.front.now slot elem ps es k c.args.trail level set) u x.answer.0
    (tree_x g.H.KeyHash.hash_of is_key was room v t u c.args.root.now c.args.front.now slot elem ps es k c.args.trail level set)
    (edits g.H.KeyHash.hash_of is_key was room v t u c.args.root.now c.args.front.now slot elem ps es k c.args.trail level set))

pub returns-clause-caused : goal.returns-clause-caused
returns-clause-caused g c = caused_after _ _ c.in_ok-map.map c.with_root.result c.in_ok-map.ensures.caused c.with_root.ensures.fault
