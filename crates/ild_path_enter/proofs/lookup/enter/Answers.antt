use Rattle.std.proofs.Common.{Err, None, Some, refl}
use Rattle.std.proofs.Math.Logic.{∥∥₁_elim}
use Rattle.std.proofs.Props.{props}
use Rattle.std.proofs.lemmas.Result.{err_from_is_err_and}
use Rattle.ild_schema.specs.Slots.{form_of}
use Rattle.ild_schema.specs.Value.{hamt}
use Rattle.ild_view.specs.Forms.{shape_in}
use Rattle.ild_view.specs.Roots.{root_in}
use Rattle.ild_view.specs.View.{slot_of, table_of}
use Rattle.ild_path_enter.proofs.Entering.{has_none, has_value, no_trail, no_value, only_reads, root_slots, slots_in}
use Rattle.ild_path_enter.specs.declared.lookup.Entered.{Entered}
use Rattle.ild_path_enter.proofs.Meeting.{meets_item, meets_none, meets_trail, meets_value}
use Rattle.ild_path_enter.proofs.Failing.{entry_fails, entry_room, entry_table, fails_viewed, none_room, none_table, some_room, some_table, trail_fails}
use Rattle.ild_path_enter.proofs.lookup.enter.Goals.{in-Some-found+in_ok-entry_in-in-Some-found, in-None-found}
use Rattle.ild_path_enter.proofs.lookup.enter.Goals as goal

pub returns-in_err-trail-clause-reads : goal.returns-in_err-trail-clause-reads
returns-in_err-trail-clause-reads g c = λ f view.
    let q = slots_in (shape_in (form_of (table_of c.args.view.now) (slot_of c.args.view.now))) (root_in f) c.in-Some.root (c.in-Some.ensures f view) in
    only_reads g.H.KeyHash.hash_of q.0 c.args.key.now q.1 (g.K.Store.moment c.args.store.now) (g.K.Store.moment c.descend.new.store) c.descend.result (c.descend.ensures q.0 q.1 q.2)

pub returns-in_err-trail-clause-trie : goal.returns-in_err-trail-clause-trie
returns-in_err-trail-clause-trie g c = λ is_key was s t ps es view told can.
    let x = root_slots g.H.KeyHash.hash_of c.args.acc.now is_key was s c.args.slot c.args.room t ps es can (shape_in (form_of (table_of c.args.view.now) (slot_of c.args.view.now)))
    c.in-Some.root (c.in-Some.ensures (hamt t) view) in
    let p = err_from_is_err_and c.from_residual.result c.from_residual.ensures.1 in
    rw (p.1, p.2) (no_trail g.H.KeyHash.hash_of c.args.acc.now is_key was s c.args.slot c.args.room t ps es can c.args.key.now (g.K.Store.moment c.args.store.now) (g.K.Store.moment c.descend.new.store)
    c.in-Some.root c.in_err-trail.field-0.0 told x (c.in_err-trail.ensures can.hamt.3 x.0 x.2))

pub returns-in_err-entry_in-in-Some-found-clause-reads :
    goal.returns-in_err-entry_in-in-Some-found-clause-reads
returns-in_err-entry_in-in-Some-found-clause-reads g c = λ f view.
    let q = slots_in (shape_in (form_of (table_of c.args.view.now) (slot_of c.args.view.now))) (root_in f) c.in-Some.root (c.in-Some.ensures f view) in
    only_reads g.H.KeyHash.hash_of q.0 c.args.key.now q.1 (g.K.Store.moment c.args.store.now) (g.K.Store.moment c.descend.new.store) c.descend.result (c.descend.ensures q.0 q.1 q.2)

pub returns-in_err-entry_in-in-Some-found-clause-trie :
    goal.returns-in_err-entry_in-in-Some-found-clause-trie
returns-in_err-entry_in-in-Some-found-clause-trie g c = λ is_key was s t ps es view told can.
    let x = root_slots g.H.KeyHash.hash_of c.args.acc.now is_key was s c.args.slot c.args.room t ps es can (shape_in (form_of (table_of c.args.view.now) (slot_of c.args.view.now)))
    c.in-Some.root (c.in-Some.ensures (hamt t) view) in
    let p = err_from_is_err_and c.from_residual-in_err-entry_in-in-Some-found.result c.from_residual-in_err-entry_in-in-Some-found.ensures.1 in
    rw (p.1, p.2) (no_value g.H.KeyHash.hash_of c.args.acc.now is_key was s c.args.slot c.args.room t ps es can c.args.key.now (g.K.Store.moment c.args.store.now) (g.K.Store.moment c.descend.new.store)
    c.in-Some.root c.in_ok-trail.trail c.in-Some-found.item c.in_err-entry_in-in-Some-found.field-0.0 c.requires.safe told x (c.in_ok-trail.ensures can.hamt.3 x.0 x.2)
    (λ is. c.in-Some-found.ensures.trie g.H.KeyHash.hash_of can.hamt.3 c.args.key.now x.0 es x.2 is) (λ d stands. c.in_err-entry_in-in-Some-found.ensures.entry d stands))

pub returns-clause-reads : goal.returns-clause-reads
returns-clause-reads g c = λ f view.
    let q = slots_in (shape_in (form_of (table_of c.args.view.now) (slot_of c.args.view.now))) (root_in f) c.in-Some.root (c.in-Some.ensures f view) in
    only_reads g.H.KeyHash.hash_of q.0 c.args.key.now q.1 (g.K.Store.moment c.args.store.now) (g.K.Store.moment c.descend.new.store) c.descend.result (c.descend.ensures q.0 q.1 q.2)

pub returns-clause-trie : goal.returns-clause-trie
returns-clause-trie g c = λ is_key was s t ps es view told can.
    let x = root_slots g.H.KeyHash.hash_of c.args.acc.now is_key was s c.args.slot c.args.room t ps es can (shape_in (form_of (table_of c.args.view.now) (slot_of c.args.view.now)))
    c.in-Some.root (c.in-Some.ensures (hamt t) view) in
    elim c.match-found.branch [
      | in-Some-found+in_ok-entry_in-in-Some-found w ↦
          has_value g.H.KeyHash.hash_of c.args.acc.now is_key was s c.args.slot c.args.room t ps es can c.args.key.now (g.K.Store.moment c.args.store.now) (g.K.Store.moment c.descend.new.store)
          c.in-Some.root c.in_ok-trail.trail w.in-Some-found.item w.in_ok-entry_in-in-Some-found.field-0 _ refl w.entry-is told x (c.in_ok-trail.ensures can.hamt.3 x.0 x.2)
          (λ is. w.in-Some-found.ensures.trie g.H.KeyHash.hash_of can.hamt.3 c.args.key.now x.0 es x.2 is) (λ d stands. w.in_ok-entry_in-in-Some-found.ensures.entry d stands)
      | in-None-found w ↦
          has_none g.H.KeyHash.hash_of c.args.acc.now is_key was s c.args.slot c.args.room t ps es can c.args.key.now (g.K.Store.moment c.args.store.now) (g.K.Store.moment c.descend.new.store)
          c.in-Some.root c.in_ok-trail.trail _ refl w.entry-is told x (c.in_ok-trail.ensures can.hamt.3 x.0 x.2) (λ is. w.in-None-found.ensures.trie g.H.KeyHash.hash_of can.hamt.3 c.args.key.now x.0 es x.2 is)
    ]

pub returns-in_err-trail-clause-failed : goal.returns-in_err-trail-clause-failed
returns-in_err-trail-clause-failed g c =
    let m = g.K.Store.moment c.args.store.now in
    let n = g.K.Store.moment c.descend.new.store in
    let e = c.in_err-trail.field-0.0 in
    let p = err_from_is_err_and c.from_residual.result c.from_residual.ensures.1 in
    rw (p.1, p.2) (fails_viewed Entered c.args.view.now m n (Err e) (λ f view.
    let q = slots_in (shape_in (form_of (table_of c.args.view.now) (slot_of c.args.view.now))) (root_in f) c.in-Some.root (c.in-Some.ensures f view) in
    trail_fails g.H.KeyHash.hash_of q.0 c.args.key.now q.1 m n e (c.in_err-trail.ensures q.0 q.1 q.2)))

pub returns-in_err-entry_in-in-Some-found-clause-failed :
    goal.returns-in_err-entry_in-in-Some-found-clause-failed
returns-in_err-entry_in-in-Some-found-clause-failed g c =
    let m = g.K.Store.moment c.args.store.now in
    let n = g.K.Store.moment c.descend.new.store in
    let p = err_from_is_err_and c.from_residual-in_err-entry_in-in-Some-found.result c.from_residual-in_err-entry_in-in-Some-found.ensures.1 in
    rw (p.1, p.2) (entry_fails c.args.acc.now c.args.slot c.args.room c.in-Some-found.item m n c.in_err-entry_in-in-Some-found.field-0.0 c.in_err-entry_in-in-Some-found.ensures.entry)

pub returns-clause-table : goal.returns-clause-table
returns-clause-table g c =
    elim c.match-found.branch [
      | in-Some-found+in_ok-entry_in-in-Some-found w ↦
          some_table c.args.acc.now _ w.in_ok-entry_in-in-Some-found.field-0 w.entry-is
          (entry_table c.args.acc.now c.args.slot c.args.room w.in-Some-found.item w.in_ok-entry_in-in-Some-found.field-0 w.in_ok-entry_in-in-Some-found.ensures.entry)
      | in-None-found w ↦ none_table c.args.acc.now _ w.entry-is
    ]

pub returns-clause-room : goal.returns-clause-room
returns-clause-room g c =
    elim c.match-found.branch [
      | in-Some-found+in_ok-entry_in-in-Some-found w ↦
          some_room c.args.room _ w.in_ok-entry_in-in-Some-found.field-0 w.entry-is
          (entry_room c.args.acc.now c.args.slot c.args.room w.in-Some-found.item w.in_ok-entry_in-in-Some-found.field-0 w.in_ok-entry_in-in-Some-found.ensures.entry)
      | in-None-found w ↦ none_room c.args.room _ w.entry-is
    ]

pub unreachable-requires : goal.unreachable-requires
unreachable-requires g c = ∥∥₁_elim c.requires.hamt (hlevel props) (λ x. c.in-None.ensures (hamt x.0) x.1)

pub returns-in_err-trail-clause-refused : goal.returns-in_err-trail-clause-refused
returns-in_err-trail-clause-refused g c =
    let p = err_from_is_err_and c.from_residual.result c.from_residual.ensures.1 in
    rw (p.1, p.2) (λ z x. meets_trail g.H.KeyHash.hash_of c.args.acc.now c.args.slot c.args.room c.args.view.now c.args.block.now c.args.key.now z (g.K.Store.moment c.args.store.now) (g.K.Store.moment c.descend.new.store) x c.in-Some.root (c.in-Some.ensures (hamt x.tree) x.stands) c.in_err-trail.field-0.0 c.in_err-trail.ensures)

pub returns-in_err-entry_in-in-Some-found-clause-refused :
    goal.returns-in_err-entry_in-in-Some-found-clause-refused
returns-in_err-entry_in-in-Some-found-clause-refused g c =
    let p = err_from_is_err_and c.from_residual-in_err-entry_in-in-Some-found.result c.from_residual-in_err-entry_in-in-Some-found.ensures.1 in
    rw (p.1, p.2) (λ z x. meets_item g.H.KeyHash.hash_of c.args.acc.now c.args.slot c.args.room c.args.view.now c.args.block.now c.args.key.now z (g.K.Store.moment c.args.store.now) (g.K.Store.moment c.descend.new.store) x c.in-Some.root (c.in-Some.ensures (hamt x.tree) x.stands)
    c.in_ok-trail.trail c.in_ok-trail.ensures c.in-Some-found.item c.in-Some-found.ensures.at_end _ c.in_err-entry_in-in-Some-found.field-0.0 c.end_of-end.ensures c.in_err-entry_in-in-Some-found.ensures.entry c.in_err-entry_in-in-Some-found.ensures.named)

pub returns-clause-refused : goal.returns-clause-refused
returns-clause-refused g c = λ z x.
    elim c.match-found.branch [
      | in-Some-found+in_ok-entry_in-in-Some-found w ↦
          meets_value g.H.KeyHash.hash_of c.args.acc.now c.args.slot c.args.room c.args.view.now c.args.block.now c.args.key.now z (g.K.Store.moment c.args.store.now) (g.K.Store.moment c.descend.new.store) x c.in-Some.root (c.in-Some.ensures (hamt x.tree) x.stands)
          c.in_ok-trail.trail c.in_ok-trail.ensures w.in-Some-found.item w.in-Some-found.ensures.at_end w.in_ok-entry_in-in-Some-found.field-0 _ refl w.entry-is w.in_ok-entry_in-in-Some-found.ensures.entry
      | in-None-found w ↦ meets_none g.H.KeyHash.hash_of c.args.acc.now c.args.slot c.args.room c.args.view.now c.args.block.now c.args.key.now z (g.K.Store.moment c.args.store.now) (g.K.Store.moment c.descend.new.store) x c.in-Some.root (c.in-Some.ensures (hamt x.tree) x.stands) c.in_ok-trail.trail _ refl w.entry-is
    ]
