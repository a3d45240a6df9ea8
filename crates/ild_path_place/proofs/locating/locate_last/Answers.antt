use Rattle.std.proofs.Common.{◌≡◌, arith, true, List, [], ◌∷◌, ◌++◌, refl, sym, subst, ◌∙◌}
use Rattle.std.specs.List.{All}
use Rattle.std.proofs.lemmas.Result.{err_from_is_err_and}
use Rattle.ild_path_hops.specs.Links.{PartBehind}
use Rattle.ild_path_hops.specs.declared.hop.Hop.{Hop}
use Rattle.ild_path_inward.specs.Inwards.{CanGoOn}
use Rattle.ild_path_inward.specs.Levels.{IsUnder}
use Rattle.std.proofs.Common.{Err}
use Rattle.ild_path_inward.specs.declared.inward.Inward.{Inward}
use Rattle.ild_path_place.specs.declared.ending.Found.{Found}
use Rattle.ild_path_place.specs.declared.place.Place.{Place}
use Rattle.ild_path_place.proofs.Failing.{later_fails, path_fails, same_fails}
use Rattle.ild_path_place.proofs.Linking.{inside_may}
use Rattle.ild_path_enter.proofs.Failing.{fails_read}
use Rattle.ild_path_place.specs.Links.{EndBehind}
use Rattle.ild_path_place.specs.Places.{Locates}
use Rattle.ild_path_place.specs.Rooted.{FailsOnly}
use Rattle.ild_path_place.specs.declared.fault.PathFault.{PathFault}
use Rattle.ild_path_place.proofs.Located.{ends_there, ends_wrong, fails, goes_on, leads, nil_by, nowhere}
use Rattle.ild_schema.specs.declared.row.Row.{Row}
use Rattle.ild_view.specs.Safe.{is_safe}
use Rattle.ild_data.specs.Spell.{id_of}
use Rattle.ild_path_found.specs.Sites.{block_in}
use Rattle.ild_path_inward.specs.Refuses.{IsDataBehind, block_behind}
use Rattle.ild_path_place.proofs.Refusing.{end_breaks, inward_breaks}
use Rattle.ild_path_place.specs.Refuses.{RefusesBroken}
use Rattle.ild_view.specs.View.{piece_of, slot_of}
use Rattle.ild_path_place.proofs.locating.locate_last.Goals as goal

pub returns-in-Err-clause-told : goal.returns-in-Err-clause-told
returns-in-Err-clause-told g c = λ was p d told x.
    let h = g.H.KeyHash.hash_of in
    let m = g.K.Store.moment c.args.store.now in
    let k = g.K.Store.moment c.go_inward.new.store in
    subst (λ (z : PathFault). Locates h c.args.acc.now was p (c.args.front.now ++ c.args.last.now ∷ []) c.args.verb m (Err z) k) (sym c.of_hamt.ensures)
    (fails g.H.KeyHash.hash_of c.args.acc.now was p d c.args.root x c.args.front.now c.args.last.now c.args.verb (g.K.Store.moment c.args.store.now) (g.K.Store.moment c.go_inward.new.store)
    c.in-Err.fault (c.in-Err.ensures.told was p d told x))

pub returns-then-not-is_empty-clause-told : goal.returns-then-not-is_empty-clause-told
returns-then-not-is_empty-clause-told g c = λ was p d told x.
    nowhere g.H.KeyHash.hash_of c.args.acc.now was p d c.args.root x c.args.front.now c.args.last.now c.args.verb (g.K.Store.moment c.args.store.now) (g.K.Store.moment c.go_inward.new.store)
    c.in-Ok.inward (c.in-Ok.ensures.told was p d told x) c.is_empty.result c.is_empty.ensures c.if-not-is_empty.true c.saturating_sub.result c.saturating_sub.ensures

pub returns-in_err-end-clause-told : goal.returns-in_err-end-clause-told
returns-in_err-end-clause-told g c = λ was p d told x.
    let h = g.H.KeyHash.hash_of in
    let rows = c.args.acc.now in
    let m = g.K.Store.moment c.args.store.now in
    let k = g.K.Store.moment c.go_inward.new.store in
    let a = c.in-Ok.ensures.told was p d told x in
    let none = nil_by h rows was p d c.args.root x c.args.front.now c.args.last.now c.args.verb m k c.in-Ok.inward a c.is_empty.result c.is_empty.ensures c.if-not-is_empty.false in
    let on = goes_on h rows was p d c.args.root x c.args.front.now c.args.last.now c.args.verb m k c.in-Ok.inward a none in
    let to = leads h rows was p d c.args.root x c.args.front.now c.args.last.now c.args.verb m k c.in-Ok.inward a none in
    let z = c.in_err-end.ensures.told was a.0.less a.0.inner a.0.holder on.0 (c.go_inward.ensures.reads.blocks ∙ told) (subst (λ (gs : List Hop). CanGoOn h rows was a.0.less a.0.inner on.0 c.args.root gs) (sym c.deref.ensures.value) on.1) to in
    let r = err_from_is_err_and c.from_residual.result c.from_residual.ensures.1 in
    rw (r.1, r.2) (ends_wrong h rows was p d c.args.root x c.args.front.now c.args.last.now c.args.verb m k c.in-Ok.inward a none c.go_inward.ensures.reads (g.K.Store.moment c.end_behind.new.store) _ refl c.in_err-end.field-0.0 z)

pub returns-clause-told : goal.returns-clause-told
returns-clause-told g c = λ was p d told x.
    let h = g.H.KeyHash.hash_of in
    let rows = c.args.acc.now in
    let m = g.K.Store.moment c.args.store.now in
    let k = g.K.Store.moment c.go_inward.new.store in
    let a = c.in-Ok.ensures.told was p d told x in
    let none = nil_by h rows was p d c.args.root x c.args.front.now c.args.last.now c.args.verb m k c.in-Ok.inward a c.is_empty.result c.is_empty.ensures c.if-not-is_empty.false in
    let on = goes_on h rows was p d c.args.root x c.args.front.now c.args.last.now c.args.verb m k c.in-Ok.inward a none in
    let to = leads h rows was p d c.args.root x c.args.front.now c.args.last.now c.args.verb m k c.in-Ok.inward a none in
    let ready = subst (λ (gs : List Hop). CanGoOn h rows was a.0.less a.0.inner on.0 c.args.root gs) (sym c.deref.ensures.value) on.1 in
    let z = c.in_ok-end.ensures.told was a.0.less a.0.inner a.0.holder on.0 (c.go_inward.ensures.reads.blocks ∙ told) ready to in
    let has = c.in_ok-end.ensures.room was a.0.less a.0.inner a.0.holder on.0 ready to in
    let holed = c.in_ok-end.ensures.hole was a.0.less a.0.inner a.0.holder on.0 ready to in
    ends_there h rows was p d c.args.root x c.args.front.now c.args.last.now c.args.verb m k c.in-Ok.inward a none c.go_inward.ensures.reads (g.K.Store.moment c.end_behind.new.store) _ c.in_ok-end.field-0 _ refl refl refl refl refl refl refl has holed z

pub returns-in-Err-clause-failed : goal.returns-in-Err-clause-failed
returns-in-Err-clause-failed g c =
    subst (λ (z : PathFault). FailsOnly {A = Place} (g.K.Store.moment c.args.store.now) (Err z) (g.K.Store.moment c.go_inward.new.store)) (sym c.of_hamt.ensures)
    (path_fails Inward Place (g.K.Store.moment c.args.store.now) (g.K.Store.moment c.go_inward.new.store) c.in-Err.fault c.in-Err.ensures.failed)

pub of_hamt-requires : goal.of_hamt-requires
of_hamt-requires g c = fails_read Inward (g.K.Store.moment c.args.store.now) (g.K.Store.moment c.go_inward.new.store) c.in-Err.fault c.in-Err.ensures.failed

pub returns-in_err-end-clause-failed : goal.returns-in_err-end-clause-failed
returns-in_err-end-clause-failed g c =
    let k = g.K.Store.moment c.go_inward.new.store in
    let n = g.K.Store.moment c.end_behind.new.store in
    let e = c.in_err-end.field-0.0 in
    let r = err_from_is_err_and c.from_residual.result c.from_residual.ensures.1 in
    rw (r.1, r.2) (later_fails Place (g.K.Store.moment c.args.store.now) k n c.go_inward.ensures.reads (Err e) (same_fails Found Place k n e c.in_err-end.ensures.failed))

pub invariant_of-result-clause-safe : goal.invariant_of-result-clause-safe
invariant_of-result-clause-safe g c =
    let slot = c.in_ok-end.field-0.slot in
    let part = c.in_ok-end.ensures.part (subst (λ (hs : List Hop). All (IsUnder c.args.acc.now) hs) (sym c.deref.ensures.value) c.in-Ok.ensures.under) in
    subst (λ (r : List Row). is_safe r slot ≡ true) (sym c.requires) part.1

pub invariant_of-result-clause-whole : goal.invariant_of-result-clause-whole
invariant_of-result-clause-whole g c = inside_may c.in_ok-end.field-0.end c.args.verb c.in_ok-end.ensures.inside

pub invariant_of-result-clause-linked : goal.invariant_of-result-clause-linked
invariant_of-result-clause-linked g c =
    let root = c.args.root in
    let own = c.in-Ok.inward in
    let x = c.in-Ok.ensures.leads in
    let end = c.in_ok-end.field-0.end in
    let leads = c.in_ok-end.ensures.leads (subst (λ (hs : List Hop). PartBehind root hs own.front) (sym c.deref.ensures.value) x.front) in
    ∣ record { hops_are = x.hops; leads = subst (λ (hs : List Hop). EndBehind root hs end) c.deref.ensures.value leads } ∣₁

pub returns-in-Err-clause-refused : goal.returns-in-Err-clause-refused
returns-in-Err-clause-refused g c = λ f t is front.
    let h = g.H.KeyHash.hash_of in
    let rows = c.args.acc.now in
    let at = id_of (block_in (piece_of c.args.root)) in
    subst (λ (z : PathFault). RefusesBroken {A = Place} h rows at 96 (slot_of c.args.root) t (g.K.Store.moment c.args.store.now) (Err z) (g.K.Store.moment c.go_inward.new.store)) (sym c.of_hamt.ensures)
    (inward_breaks Inward Place h rows at 96 (slot_of c.args.root) t (g.K.Store.moment c.args.store.now) (g.K.Store.moment c.go_inward.new.store) c.in-Err.fault (c.in-Err.ensures.refused f t is front (omega arith)))

pub returns-in_err-end-clause-refused : goal.returns-in_err-end-clause-refused
returns-in_err-end-clause-refused g c = λ f t is front.
    let h = g.H.KeyHash.hash_of in
    let rows = c.args.acc.now in
    let root = c.args.root in
    let block = block_in (piece_of root) in
    let m = g.K.Store.moment c.args.store.now in
    let k = g.K.Store.moment c.go_inward.new.store in
    let n = g.K.Store.moment c.end_behind.new.store in
    let x = c.in-Ok.ensures.deeper f t is front (omega arith) in
    let z = c.in_err-end.ensures.refused x.slot x.value x.tree x.less (subst (λ (gs : List Hop). IsDataBehind rows root gs x.less x.slot x.tree x.value) (sym c.deref.ensures.value) x.behind) x.room_is in
    let own = subst (λ (gs : List Hop). RefusesBroken {A = Found} h rows (id_of (block_behind block gs)) x.less x.slot x.tree k (Err c.in_err-end.field-0.0) n) c.deref.ensures.value z in
    let r = err_from_is_err_and c.from_residual.result c.from_residual.ensures.1 in
    rw (r.1, r.2) (end_breaks Found Place h rows root block (id_of block) 96 (slot_of root) t m k n c.go_inward.ensures.reads c.in-Ok.inward x c.in_err-end.field-0.0 own)
