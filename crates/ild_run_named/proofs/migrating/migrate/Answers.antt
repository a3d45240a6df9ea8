use Rattle.std.proofs.Common.{sym, subst}
use Rattle.std.specs.Prelude.{Ok, Err}
use Rattle.ild_open.specs.Opened.{HasOpened}
use Rattle.ild_run_named.specs.Migrates.{Migrates}
use Rattle.ild_run_named.specs.declared.migrating.MigrateFault.{MigrateFault}
use Rattle.ild_run_named.proofs.Moving.{moved_doc, unopened}
use Rattle.ild_run_named.proofs.migrating.migrate.Goals as goal

pub returns-in-Err : goal.returns-in-Err
returns-in-Err g c =
    let h = g.H.KeyHash.hash_of in
    let rows = c.args.acc.now in
    let m = g.K.Store.moment c.args.store.now in
    let k = g.K.Store.moment c.open_root.new.store in
    subst (λ (e : MigrateFault). Migrates h rows c.args.ty c.args.root.now.0 c.args.name.now c.args.source.now m (Err e) k) (sym c.migrate_fault.ensures)
    (unopened rows (record { table = c.recall.ensures.table; accepted = c.recall.ensures.accepted }) h c.args.ty c.args.root.now.0 c.args.name.now c.args.source.now m k (HasOpened h rows c.args.ty c.args.root.now.0 k) c.in-Err.fault
    c.in-Err.ensures)

pub returns-in-Ok-name_root : goal.returns-in-Ok-name_root
returns-in-Ok-name_root g c =
    let h = g.H.KeyHash.hash_of in
    moved_doc c.args.acc.now (record { table = c.recall.ensures.table; accepted = c.recall.ensures.accepted }) h c.args.ty c.args.root.now.0 c.args.name.now c.args.source.now (g.K.Store.moment c.args.store.now)
    (g.K.Store.moment c.open_root.new.store) (g.K.Store.moment c.name_root.new.store) c.in-Ok.doc (Ok c.in-Ok-name_root.id) c.in-Ok.ensures tt c.in-Ok-name_root.ensures

pub returns : goal.returns
returns g c =
    let h = g.H.KeyHash.hash_of in
    let rows = c.args.acc.now in
    let m = g.K.Store.moment c.args.store.now in
    let n = g.K.Store.moment c.name_root.new.store in
    subst (λ (e : MigrateFault). Migrates h rows c.args.ty c.args.root.now.0 c.args.name.now c.args.source.now m (Err e) n) (sym c.name_fault.ensures.same)
    (moved_doc rows (record { table = c.recall.ensures.table; accepted = c.recall.ensures.accepted }) h c.args.ty c.args.root.now.0 c.args.name.now c.args.source.now m
    (g.K.Store.moment c.open_root.new.store) n c.in-Ok.doc (Err c.in-Err-name_root.fault) c.in-Ok.ensures c.name_fault.ensures.bytes c.in-Err-name_root.ensures)
