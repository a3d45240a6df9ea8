use Rattle.std.proofs.Common.{◌∙◌, IsUtf8, Result, Ok, Err, refl, sym, subst}
use Rattle.std.proofs.Math.Logic.{∥∥₁_elim}
use Rattle.std.proofs.Props.{props}
use Rattle.std.proofs.lemmas.Result.{err_from_is_err_and}
use Rattle.ild_path_inward.proofs.Leading.{hamt_valued}
use Rattle.ild_view.specs.View.{slot_of}
use Rattle.ild_path_inward.proofs.Reading.{only_viewed}
use Rattle.ild_schema.specs.Value.{map}
use Rattle.ild_schema.specs.declared.number.Slot.{Slot}
use Rattle.ild_path_place.specs.inside.Endings.{EndsKey}
use Rattle.ild_node_slots.specs.declared.fault.HamtFault.TheVariants.{Memory}
use Rattle.ild_schema.specs.Slots.{form_of}
use Rattle.ild_path_place.specs.inside.Keys.{FitsAs}
use Rattle.ild_path_place.specs.inside.Slots.{SlotAnswer}
use Rattle.ild_path_place.specs.declared.ending.Found.{Found}
use Rattle.ild_path_place.specs.declared.fault.PathFault.{PathFault}
use Rattle.ild_path_place.specs.declared.place.End.TheVariants.{AtKey}
use Rattle.ild_path_rules.specs.declared.delete.Refusal.{Refusal}
use Rattle.std.specs.Prelude.{IfOk}
use Rattle.ild_path_enter.specs.declared.lookup.Entered.{Entered}
use Rattle.ild_path_enter.proofs.Failing.{fails_read}
use Rattle.ild_path_place.specs.Rooted.{FailsOnly}
use Rattle.ild_path_place.specs.inside.Slots.{IsPartSlot}
use Rattle.ild_path_place.proofs.Failing.{path_fails, refused_fails}
use Rattle.ild_path_place.proofs.PartSlots.{key_fits}
use Rattle.ild_path_place.proofs.Keying.{can, ends_refused, ends_there, ends_wrong, fitted, slotted}
use Rattle.ild_path_place.proofs.Refusing.{refused_at, refuses_at, site_at}
use Rattle.ild_path_place.specs.Refuses.{RefusesAt}
use Rattle.ild_path_place.proofs.ending.end_at_key.Goals as goal

pub returns-in-Err-clause-reads : goal.returns-in-Err-clause-reads
returns-in-Err-clause-reads g c = only_viewed c.args.holder.now (g.K.Store.moment c.args.store.now) (g.K.Store.moment c.enter.new.store) c.in-Err.ensures.reads

pub returns-in-Err-slot_at_key-clause-reads : goal.returns-in-Err-slot_at_key-clause-reads
returns-in-Err-slot_at_key-clause-reads g c = only_viewed c.args.holder.now (g.K.Store.moment c.args.store.now) (g.K.Store.moment c.enter.new.store) c.in-Ok.ensures.reads

pub returns-in_err-key_fits-clause-reads : goal.returns-in_err-key_fits-clause-reads
returns-in_err-key_fits-clause-reads g c = only_viewed c.args.holder.now (g.K.Store.moment c.args.store.now) (g.K.Store.moment c.enter.new.store) c.in-Ok.ensures.reads

pub returns-clause-reads : goal.returns-clause-reads
returns-clause-reads g c = only_viewed c.args.holder.now (g.K.Store.moment c.args.store.now) (g.K.Store.moment c.enter.new.store) c.in-Ok.ensures.reads

pub returns-in-Err-clause-told : goal.returns-in-Err-clause-told
returns-in-Err-clause-told g c = λ was limit q told x.
    let h = g.H.KeyHash.hash_of in
    let rows = c.args.acc.now in
    let view = c.args.holder.now in
    let is = c.in-Some.ensures in
    let ready = can h rows was limit q c.args.front c.args.room view x c.in-Some.slot is c.saturating_sub-less.result c.saturating_sub-less.ensures in
    let e = c.in-Err.ensures.trie _ was (slot_of view) x.tree x.ps _ x.stands told ready in
    subst (λ k. EndsKey h rows was limit q c.args.front c.args.room view x k c.args.k c.args.verb (g.K.Store.moment c.args.store.now) (Err c.of_hamt.result) (g.K.Store.moment c.enter.new.store)) c.as_str-key.ensures.same
    (subst (λ (z : PathFault). EndsKey h rows was limit q c.args.front c.args.room view x c.as_str-key.result.now c.args.k c.args.verb (g.K.Store.moment c.args.store.now) (Err z) (g.K.Store.moment c.enter.new.store)) (sym c.of_hamt.ensures)
    (ends_wrong h rows was limit q c.args.front c.args.room view x c.in-Some.slot is c.saturating_sub-less.result c.saturating_sub-less.ensures c.as_str-key.result.now (g.K.Store.moment c.args.store.now) (g.K.Store.moment c.enter.new.store) e.gets
    c.args.k c.args.verb c.in-Err.fault e.answer))

pub returns-in-Err-slot_at_key-clause-told : goal.returns-in-Err-slot_at_key-clause-told
returns-in-Err-slot_at_key-clause-told g c = λ was limit q told x.
    let h = g.H.KeyHash.hash_of in
    let rows = c.args.acc.now in
    let view = c.args.holder.now in
    let m = g.K.Store.moment c.args.store.now in
    let n = g.K.Store.moment c.enter.new.store in
    let is = c.in-Some.ensures in
    let ready = can h rows was limit q c.args.front c.args.room view x c.in-Some.slot is c.saturating_sub-less.result c.saturating_sub-less.ensures in
    let e = c.in-Ok.ensures.trie _ was (slot_of view) x.tree x.ps _ x.stands told ready in
    let answer = slotted h rows was limit q c.args.front c.args.room view x c.in-Some.slot is c.saturating_sub-less.result c.saturating_sub-less.ensures c.as_str-key.result.now c.in-Ok.entered.entry e.answer.value c.is_some-there.result c.is_some-there.ensures c.args.verb
    c.slot_at_key.result c.slot_at_key.ensures in
    let own = subst (λ (r : Result Slot Refusal). SlotAnswer rows (slot_of view, map x.ps) c.as_str-key.result.now c.args.verb r) c.in-Err-slot_at_key.is answer in
    subst (λ i. EndsKey h rows was limit q c.args.front c.args.room view x i c.args.k c.args.verb m (Err c.refused.result) n) c.as_str-key.ensures.same
    (subst (λ (z : PathFault). EndsKey h rows was limit q c.args.front c.args.room view x c.as_str-key.result.now c.args.k c.args.verb m (Err z) n) (sym c.refused.ensures)
    (ends_refused h rows was limit q c.args.front c.args.room view x c.in-Some.slot is c.saturating_sub-less.result c.saturating_sub-less.ensures c.as_str-key.result.now m n e.gets c.args.k c.args.verb c.in-Err-slot_at_key.refusal own))

pub returns-in_err-key_fits-clause-told : goal.returns-in_err-key_fits-clause-told
returns-in_err-key_fits-clause-told g c = λ was limit q told x.
    let h = g.H.KeyHash.hash_of in
    let rows = c.args.acc.now in
    let view = c.args.holder.now in
    let m = g.K.Store.moment c.args.store.now in
    let n = g.K.Store.moment c.enter.new.store in
    let is = c.in-Some.ensures in
    let ready = can h rows was limit q c.args.front c.args.room view x c.in-Some.slot is c.saturating_sub-less.result c.saturating_sub-less.ensures in
    let e = c.in-Ok.ensures.trie _ was (slot_of view) x.tree x.ps _ x.stands told ready in
    let r = err_from_is_err_and c.from_residual.result c.from_residual.ensures.1 in
    subst (λ i. EndsKey h rows was limit q c.args.front c.args.room view x i c.args.k c.args.verb m c.from_residual.result n) c.as_str-key.ensures.same
    (rw (r.1, r.2) (ends_wrong h rows was limit q c.args.front c.args.room view x c.in-Some.slot is c.saturating_sub-less.result c.saturating_sub-less.ensures c.as_str-key.result.now m n e.gets c.args.k c.args.verb Memory tt))

pub returns-clause-told : goal.returns-clause-told
returns-clause-told g c = λ was limit q told x.
    let h = g.H.KeyHash.hash_of in
    let rows = c.args.acc.now in
    let view = c.args.holder.now in
    let m = g.K.Store.moment c.args.store.now in
    let n = g.K.Store.moment c.enter.new.store in
    let is = c.in-Some.ensures in
    let ready = can h rows was limit q c.args.front c.args.room view x c.in-Some.slot is c.saturating_sub-less.result c.saturating_sub-less.ensures in
    let e = c.in-Ok.ensures.trie _ was (slot_of view) x.tree x.ps _ x.stands told ready in
    let answer = slotted h rows was limit q c.args.front c.args.room view x c.in-Some.slot is c.saturating_sub-less.result c.saturating_sub-less.ensures c.as_str-key.result.now c.in-Ok.entered.entry e.answer.value c.is_some-there.result c.is_some-there.ensures c.args.verb
    c.slot_at_key.result c.slot_at_key.ensures in
    let utf8 = subst IsUtf8 (sym c.as_str-key.ensures.same) c.as_str-key.ensures.utf8 in
    let fits = subst (λ i. FitsAs rows (form_of rows (slot_of view)) c.is_some-there.result i c.in_ok-key_fits.key_fits) (refl) c.in_ok-key_fits.ensures in
    let key = fitted h rows was limit q c.args.front c.args.room view x c.in-Some.slot is c.saturating_sub-less.result c.saturating_sub-less.ensures c.as_str-key.result.now c.in-Ok.entered.entry e.answer.value c.is_some-there.result c.is_some-there.ensures utf8
    c.in_ok-key_fits.key_fits fits in
    let found : Found = record { end = AtKey c.args.front c.in-Ok.entered.trail c.in-Ok.entered.entry; slot = c.in-Ok-slot_at_key.slot; key_fits = c.in_ok-key_fits.key_fits; room = c.args.left; hole = c.args.hole } in
    subst (λ i. EndsKey h rows was limit q c.args.front c.args.room view x i c.args.k c.args.verb m (Ok found) n) c.as_str-key.ensures.same
    (ends_there h rows was limit q c.args.front c.args.room view x c.in-Some.slot is c.saturating_sub-less.result c.saturating_sub-less.ensures c.as_str-key.result.now m n e.gets
    c.args.k c.args.verb found c.in-Ok.entered.trail c.in-Ok.entered.entry refl utf8 e.answer.found e.answer.value
    (subst (λ (r : Result Slot Refusal). SlotAnswer rows (slot_of view, map x.ps) c.as_str-key.result.now c.args.verb r) c.in-Ok-slot_at_key.is answer) key)

pub returns-in-Err-clause-failed : goal.returns-in-Err-clause-failed
returns-in-Err-clause-failed g c =
    subst (λ (z : PathFault). FailsOnly {A = Found} (g.K.Store.moment c.args.store.now) (Err z) (g.K.Store.moment c.enter.new.store)) (sym c.of_hamt.ensures)
    (path_fails Entered Found (g.K.Store.moment c.args.store.now) (g.K.Store.moment c.enter.new.store) c.in-Err.fault c.in-Err.ensures.failed)

pub returns-in-Err-slot_at_key-clause-failed : goal.returns-in-Err-slot_at_key-clause-failed
returns-in-Err-slot_at_key-clause-failed g c =
    let m = g.K.Store.moment c.args.store.now in
    let n = g.K.Store.moment c.enter.new.store in
    subst (λ (z : PathFault). FailsOnly {A = Found} m (Err z) n) (sym c.refused.ensures) (refused_fails Found m n c.args.k c.in-Err-slot_at_key.refusal)

pub returns-clause-part : goal.returns-clause-part
returns-clause-part g c =
    let rows = c.args.acc.now in
    let is = c.in-Some.ensures in
    subst (λ (z : Result Slot Refusal). IfOk z (IsPartSlot rows)) c.in-Ok-slot_at_key.is
    (key_fits rows c.in-Some.slot (is.1, is.2) c.is_some-there.result c.args.verb c.slot_at_key.result c.slot_at_key.ensures)

pub of_hamt-requires : goal.of_hamt-requires
of_hamt-requires g c = fails_read Entered (g.K.Store.moment c.args.store.now) (g.K.Store.moment c.enter.new.store) c.in-Err.fault c.in-Err.ensures.failed

pub unreachable-requires : goal.unreachable-requires
unreachable-requires g c =
    ∥∥₁_elim c.requires.hamt (hlevel props) (λ x. hamt_valued c.args.acc.now c.args.holder.now c.requires.table x.0 x.1 c.in_default.ensures)

pub returns-in-Err-clause-refused : goal.returns-in-Err-clause-refused
returns-in-Err-clause-refused g c = λ z x.
    let h = g.H.KeyHash.hash_of in
    let rows = c.args.acc.now in
    let m = g.K.Store.moment c.args.store.now in
    let n = g.K.Store.moment c.enter.new.store in
    subst (λ (e : PathFault). RefusesAt {A = Found} h rows z m (Err e) n) (sym c.of_hamt.ensures)
    (refuses_at Found h rows c.args.block.now c.as_str-key.result.now z m n c.in-Err.fault
    (c.in-Err.ensures.refused z (site_at rows c.args.room c.args.holder.now c.args.block.now z x c.requires.table c.in-Some.slot c.saturating_sub-less.result c.in-Some.ensures c.saturating_sub-less.ensures)))

pub returns-in-Err-slot_at_key-clause-refused : goal.returns-in-Err-slot_at_key-clause-refused
returns-in-Err-slot_at_key-clause-refused g c = λ z x.
    let m = g.K.Store.moment c.args.store.now in
    let n = g.K.Store.moment c.enter.new.store in
    subst (λ (e : PathFault). RefusesAt {A = Found} g.H.KeyHash.hash_of c.args.acc.now z m (Err e) n) (sym c.refused.ensures) (refused_at Found g.H.KeyHash.hash_of c.args.acc.now z m n c.args.k c.in-Err-slot_at_key.refusal)
