use Rattle.std.proofs.Common.{Err, Result, sym, ap, ◌∙◌, subst}
use Rattle.ild_data.specs.Spell.{id_of}
use Rattle.ild_open.specs.Blocks.{bytes_in}
use Rattle.ild_schema.specs.declared.val.Val.{Val}
use Rattle.ild_typed.specs.Schema.{IsSchema}
use Rattle.ild_run_follow.specs.Tells.{LoadsPart}
use Rattle.ild_run_follow.specs.declared.fault.ReadFault.{ReadFault}
use Rattle.ild_run_follow.proofs.Loading.{loaded_as, loads}
use Rattle.ild_run_follow.proofs.Refusing.{load_refuses}
use Rattle.ild_run_follow.specs.Refuses.{RefusesBroken}
use Rattle.ild_view.specs.View.{slot_of, table_of}
use Rattle.ild_run_follow.proofs.telling.loaded.Goals as goal

pub returns-in-Ok-clause-loads : goal.returns-in-Ok-clause-loads
returns-in-Ok-clause-loads g c =
    let schema = subst IsSchema c.schema.ensures (record { table = c.recall.ensures.table; accepted = c.recall.ensures.accepted }) in
    subst (λ (r : Result Val ReadFault). LoadsPart g.H.KeyHash.hash_of c.args.room c.args.view.now (g.K.Store.moment c.args.store.now) r (g.K.Store.moment c.load.new.store)) (ap loaded_as c.in-Ok.is)
    (loads g.H.KeyHash.hash_of c.args.room c.requires.low c.args.view.now schema (id_of (bytes_in c.args.at)) (g.K.Store.moment c.args.store.now) (g.K.Store.moment c.load.new.store) c.requires.shallow c.load.result c.load.ensures)

pub returns-in-Err-clause-loads : goal.returns-in-Err-clause-loads
returns-in-Err-clause-loads g c =
    let schema = subst IsSchema c.schema.ensures (record { table = c.recall.ensures.table; accepted = c.recall.ensures.accepted }) in
    subst (λ (r : Result Val ReadFault). LoadsPart g.H.KeyHash.hash_of c.args.room c.args.view.now (g.K.Store.moment c.args.store.now) r (g.K.Store.moment c.load.new.store)) (ap loaded_as c.in-Err.is ∙ ap Err (sym c.of_open.ensures))
    (loads g.H.KeyHash.hash_of c.args.room c.requires.low c.args.view.now schema (id_of (bytes_in c.args.at)) (g.K.Store.moment c.args.store.now) (g.K.Store.moment c.load.new.store) c.requires.shallow c.load.result c.load.ensures)

pub returns-in-Err-clause-refused : goal.returns-in-Err-clause-refused
returns-in-Err-clause-refused g c = λ t shown.
    let view = c.args.view.now in
    let m = g.K.Store.moment c.args.store.now in
    let n = g.K.Store.moment c.load.new.store in
    subst (λ (r : Result Val ReadFault). RefusesBroken g.H.KeyHash.hash_of (table_of view) (id_of (bytes_in c.args.at)) c.args.room (slot_of view) t m r n) (ap loaded_as c.in-Err.is ∙ ap Err (sym c.of_open.ensures))
    (load_refuses g.H.KeyHash.hash_of c.args.room view (id_of (bytes_in c.args.at)) m n c.load.result c.load.ensures t shown)
