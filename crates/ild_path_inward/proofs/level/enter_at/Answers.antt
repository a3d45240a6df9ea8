use Rattle.std.proofs.Common.{◌≡◌, ◌-◌, IsUtf8, Err, Ok, refl, sym, subst, arith}
use Rattle.std.proofs.Math.Logic.{∥∥₁_elim}
use Rattle.std.proofs.Props.{props}
use Rattle.std.proofs.lemmas.Result.{err_from_is_err_and}
use Rattle.ild_path_inward.proofs.Leading.{hamt_valued}
use Rattle.std.specs.Prelude.{Option}
use Rattle.ild_data.specs.Key.{value_at}
use Rattle.ild_schema.specs.Value.{pairs_list}
use Rattle.ild_path_entry.specs.declared.entry.Entry.{Entry}
use Rattle.ild_path_enter.specs.Enters.{EntryThere, MeetsSite}
use Rattle.ild_view.specs.View.{slot_of}
use Rattle.ild_path_inward.specs.Levels.{CanEnterAt}
use Rattle.ild_path_enter.specs.declared.lookup.Entered.{Entered}
use Rattle.ild_path_inward.specs.declared.level.Level.{Level}
use Rattle.ild_path_inward.proofs.Failing.{same_fails}
use Rattle.ild_path_inward.proofs.Passing.{can, goes_none, goes_on, goes_wrong}
use Rattle.ild_path_inward.proofs.Refusing.{fails_hamt, passes_hamt, site_of}
use Rattle.ild_path_inward.proofs.level.enter_at.Goals as goal

pub returns-in_err-trail-clause-told : goal.returns-in_err-trail-clause-told
returns-in_err-trail-clause-told g c = λ was limit p path told x.
    let h = g.H.KeyHash.hash_of in
    let rows = c.args.acc.now in
    let halt = c.args.halt.now in
    let y = subst (λ k. CanEnterAt h rows was limit p path c.args.front k c.args.behind.now halt) (sym c.as_str.ensures.same) x in
    let is = c.in-Some.ensures in
    let ready = can h rows was limit p path c.args.front c.as_str.result.now c.args.behind.now halt y c.in-Some.slot is c.below_hamt-less.result (c.below_hamt-less.ensures.less y.low) in
    let e = c.in_err-trail.ensures.trie _ was (slot_of halt.view) y.tree y.ps _ y.view told ready in
    let r = err_from_is_err_and c.from_residual.result c.from_residual.ensures.1 in
    rw (r.1, r.2) (goes_wrong h rows was limit p path c.args.front c.as_str.result.now c.args.behind.now halt y c.in-Some.slot is c.below_hamt-less.result (c.below_hamt-less.ensures.less y.low) (g.K.Store.moment c.args.store.now) (g.K.Store.moment c.enter.new.store) e.gets
    c.in_err-trail.field-0.0 e.answer)

pub returns-in-Some-entry-clause-told : goal.returns-in-Some-entry-clause-told
returns-in-Some-entry-clause-told g c = λ was limit p path told x.
    let h = g.H.KeyHash.hash_of in
    let rows = c.args.acc.now in
    let halt = c.args.halt.now in
    let y = subst (λ k. CanEnterAt h rows was limit p path c.args.front k c.args.behind.now halt) (sym c.as_str.ensures.same) x in
    let is = c.in-Some.ensures in
    let ready = can h rows was limit p path c.args.front c.as_str.result.now c.args.behind.now halt y c.in-Some.slot is c.below_hamt-less.result (c.below_hamt-less.ensures.less y.low) in
    let e = c.in_ok-trail.ensures.trie _ was (slot_of halt.view) y.tree y.ps _ y.view told ready in
    goes_on h rows was limit p path c.args.front c.as_str.result.now c.args.behind.now halt y c.in-Some.slot is c.below_hamt-less.result (c.below_hamt-less.ensures.less y.low) (g.K.Store.moment c.args.store.now) (g.K.Store.moment c.enter.new.store) e.gets
    _ refl (subst IsUtf8 (sym c.as_str.ensures.same) c.as_str.ensures.utf8) e.answer.found
    (subst (λ (o : Option Entry). EntryThere h rows was c.in-Some.slot c.below_hamt-less.result (value_at c.as_str.result.now (pairs_list y.ps)) o) c.in-Some-entry.is e.answer.value)
    c.args.behind.now refl c.below_hamt-less.result refl

pub returns-in-None-clause-told : goal.returns-in-None-clause-told
returns-in-None-clause-told g c = λ was limit p path told x.
    let h = g.H.KeyHash.hash_of in
    let rows = c.args.acc.now in
    let halt = c.args.halt.now in
    let y = subst (λ k. CanEnterAt h rows was limit p path c.args.front k c.args.behind.now halt) (sym c.as_str.ensures.same) x in
    let is = c.in-Some.ensures in
    let ready = can h rows was limit p path c.args.front c.as_str.result.now c.args.behind.now halt y c.in-Some.slot is c.below_hamt-less.result (c.below_hamt-less.ensures.less y.low) in
    let e = c.in_ok-trail.ensures.trie _ was (slot_of halt.view) y.tree y.ps _ y.view told ready in
    goes_none h rows was limit p path c.args.front c.as_str.result.now c.args.behind.now halt y c.in-Some.slot is c.below_hamt-less.result (c.below_hamt-less.ensures.less y.low) (g.K.Store.moment c.args.store.now) (g.K.Store.moment c.enter.new.store) e.gets
    _ refl refl refl
    (subst (λ (o : Option Entry). EntryThere h rows was c.in-Some.slot c.below_hamt-less.result (value_at c.as_str.result.now (pairs_list y.ps)) o) c.in-None.is e.answer.value)

pub returns-in_err-trail-clause-failed : goal.returns-in_err-trail-clause-failed
returns-in_err-trail-clause-failed g c =
    let r = err_from_is_err_and c.from_residual.result c.from_residual.ensures.1 in
    rw (r.1, r.2) (same_fails Entered Level (g.K.Store.moment c.args.store.now) (g.K.Store.moment c.enter.new.store) c.in_err-trail.field-0.0 c.in_err-trail.ensures.failed)

pub returns-in-Some-entry-clause-under : goal.returns-in-Some-entry-clause-under
returns-in-Some-entry-clause-under g c = c.in_ok-trail.ensures.table _ c.in-Some-entry.is

pub unreachable-requires : goal.unreachable-requires
unreachable-requires g c =
    ∥∥₁_elim c.requires.hamt (hlevel props) (λ x. hamt_valued c.args.acc.now c.args.halt.now.view c.requires.table x.0 x.1 c.in_default.ensures)

pub returns-in_err-trail-clause-refused : goal.returns-in_err-trail-clause-refused
returns-in_err-trail-clause-refused g c =
    let h = g.H.KeyHash.hash_of in
    let rows = c.args.acc.now in
    let m = g.K.Store.moment c.args.store.now in
    let n = g.K.Store.moment c.enter.new.store in
    let r = err_from_is_err_and c.from_residual.result c.from_residual.ensures.1 in
    rw (r.1, r.2) (λ z x. fails_hamt h rows c.args.block.now c.args.key.now z m n c.in_err-trail.field-0.0
    (subst (λ k. MeetsSite h rows c.args.block.now k z m (Err c.in_err-trail.field-0.0) n) c.as_str.ensures.same
    (c.in_err-trail.ensures.refused z (site_of rows c.args.halt.now c.args.block.now z x c.requires.table c.in-Some.slot c.below_hamt-less.result c.in-Some.ensures c.below_hamt-less.ensures.less))))

pub returns-in-Some-entry-clause-refused : goal.returns-in-Some-entry-clause-refused
returns-in-Some-entry-clause-refused g c = λ z x.
    let h = g.H.KeyHash.hash_of in
    let rows = c.args.acc.now in
    let m = g.K.Store.moment c.args.store.now in
    let n = g.K.Store.moment c.enter.new.store in
    let left = x.site.left in
    let own = c.below_hamt-less.ensures.less x.low in
    let same : c.below_hamt-less.result ≡ z.room = omega (arith, left, own) in
    passes_hamt h rows c.args.block.now c.args.key.now z m n c.in_ok-trail.field-0 c.in-Some-entry.entry c.below_hamt-less.result c.in-Some-entry.is same
    (subst (λ k. MeetsSite h rows c.args.block.now k z m (Ok c.in_ok-trail.field-0) n) c.as_str.ensures.same
    (c.in_ok-trail.ensures.refused z (site_of rows c.args.halt.now c.args.block.now z x c.requires.table c.in-Some.slot c.below_hamt-less.result c.in-Some.ensures c.below_hamt-less.ensures.less)))
