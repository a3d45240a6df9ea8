use Rattle.std.proofs.Common.{List, Ok, Err, refl, subst}
use Rattle.std.proofs.lemmas.Result.{err_from_is_err_and}
use Rattle.ild_data.specs.Spell.{id_of}
use Rattle.ild_open.specs.Blocks.{bytes_in}
use Rattle.ild_schema.specs.declared.number.Slot.{Slot}
use Rattle.ild_schema.specs.declared.row.Row.{Row}
use Rattle.ild_view.specs.View.{slot_of, table_of}
use Rattle.ild_run_follow.specs.Tells.{ToldBy}
use Rattle.ild_run_follow.specs.declared.fault.ReadFault.TheVariants as F
use Rattle.ild_run_follow.proofs.Loading.{says_none, says_some, tells_loaded, tells_unloaded, tells_wanting}
use Rattle.ild_run_follow.proofs.Refusing.{part_fails}
use Rattle.ild_run_follow.proofs.telling.tell_loaded.Goals as goal

pub returns-in_err-val-clause-tells : goal.returns-in_err-val-clause-tells
returns-in_err-val-clause-tells g c =
    let p = err_from_is_err_and c.from_residual.result c.from_residual.ensures.1 in
    rw (p.1, p.2) (tells_unloaded g.H.KeyHash.hash_of c.args.room c.args.view.now c.args.tell (g.K.Store.moment c.args.store.now) (g.K.Store.moment c.loaded.new.store) c.requires.loads c.in_err-val.field-0.0 c.in_err-val.ensures.loads)

pub returns-in_err-tree-clause-tells : goal.returns-in_err-tree-clause-tells
returns-in_err-tree-clause-tells g c =
    let p = err_from_is_err_and c.from_residual-in_err-tree.result c.from_residual-in_err-tree.ensures.1 in
    rw (p.1, p.2) (tells_wanting g.H.KeyHash.hash_of c.args.room c.args.view.now c.args.tell (g.K.Store.moment c.args.store.now) (g.K.Store.moment c.loaded.new.store) c.requires.loads c.in_ok-val.val F.Memory c.in_ok-val.ensures.loads refl)

pub returns-in-Some-clause-tells : goal.returns-in-Some-clause-tells
returns-in-Some-clause-tells g c =
    tells_loaded g.H.KeyHash.hash_of c.args.room c.args.view.now c.args.tell (g.K.Store.moment c.args.store.now) (g.K.Store.moment c.loaded.new.store) c.requires.loads c.in_ok-val.val c.in_ok-tree.field-0 (Ok c.in-Some.tree) c.in_ok-val.ensures.loads tt
    (says_some g.H.KeyHash.hash_of c.args.room c.args.view.now c.args.tell (g.K.Store.moment c.args.store.now) (g.K.Store.moment c.loaded.new.store) c.in_ok-tree.field-0 c.in-Some.tree c.in-Some.is)
    (subst (λ (r : List Row). ToldBy r (slot_of c.args.view.now) c.in_ok-val.val c.args.tell c.in_ok-tree.field-0) c.schema.ensures (subst (λ (s : Slot). ToldBy c.schema.result.now s c.in_ok-val.val c.args.tell c.in_ok-tree.field-0) c.slot.ensures c.in_ok-tree.ensures))

pub returns-clause-tells : goal.returns-clause-tells
returns-clause-tells g c =
    tells_loaded g.H.KeyHash.hash_of c.args.room c.args.view.now c.args.tell (g.K.Store.moment c.args.store.now) (g.K.Store.moment c.loaded.new.store) c.requires.loads c.in_ok-val.val c.in_ok-tree.field-0 (Err F.Path) c.in_ok-val.ensures.loads tt
    (says_none g.H.KeyHash.hash_of c.args.room c.args.view.now c.args.tell (g.K.Store.moment c.args.store.now) (g.K.Store.moment c.loaded.new.store) c.in_ok-tree.field-0 c.in-None.is)
    (subst (λ (r : List Row). ToldBy r (slot_of c.args.view.now) c.in_ok-val.val c.args.tell c.in_ok-tree.field-0) c.schema.ensures (subst (λ (s : Slot). ToldBy c.schema.result.now s c.in_ok-val.val c.args.tell c.in_ok-tree.field-0) c.slot.ensures c.in_ok-tree.ensures))

pub returns-in_err-val-clause-refused : goal.returns-in_err-val-clause-refused
returns-in_err-val-clause-refused g c =
    let p = err_from_is_err_and c.from_residual.result c.from_residual.ensures.1 in
    rw (p.1, p.2) (λ t shown.
    part_fails g.H.KeyHash.hash_of (table_of c.args.view.now) (id_of (bytes_in c.args.at)) c.args.room (slot_of c.args.view.now) t (g.K.Store.moment c.args.store.now) (g.K.Store.moment c.loaded.new.store) c.in_err-val.field-0.0 (c.in_err-val.ensures.refused t shown))

pub returns-in_err-tree-clause-refused : goal.returns-in_err-tree-clause-refused
returns-in_err-tree-clause-refused g c = let p = err_from_is_err_and c.from_residual-in_err-tree.result c.from_residual-in_err-tree.ensures.1 in rw (p.1, p.2) (λ t shown. tt)
