use Rattle.std.proofs.Common.{ℕ, List, Ok}
use Rattle.ild_path_enter.proofs.Failing.{fails_read}
use Rattle.ild_run_prove.proofs.Behind.{failed, proved, unopened, wanting}
use Rattle.ild_run_prove.proofs.proving.prove.Goals as goal

pub returns-in-Err : goal.returns-in-Err
returns-in-Err g c = rw c.open_fault.ensures (unopened g.H.KeyHash.hash_of c.args.acc.now c.args.ty c.args.id.now.0 c.args.path.now (g.K.Store.moment c.args.store.now) (g.K.Store.moment c.open_root.new.store) c.in-Err.fault c.in-Err.ensures)

pub made_fault-requires : goal.made_fault-requires
made_fault-requires g c = fails_read (List (List ℕ)) (g.K.Store.moment c.open_root.new.store) (g.K.Store.moment c.prove.new.store) c.in-Err-prove_in.fault c.in-Err-prove_in.ensures.failed

pub returns-in-Ok-json_of : goal.returns-in-Ok-json_of
returns-in-Ok-json_of g c =
    let opens = c.in-Ok.ensures in
    let made = c.in-Ok-prove_in.ensures in
    proved g.H.KeyHash.hash_of c.args.acc.now c.args.ty c.args.id.now.0 c.args.path.now (g.K.Store.moment c.args.store.now) (g.K.Store.moment c.open_root.new.store) (g.K.Store.moment c.prove.new.store) c.in-Ok.doc opens.answer opens.only made.only opens.gets
    c.in-Ok-prove_in.proof c.in-Ok-json_of.json made.stands made.proves c.in-Ok-json_of.ensures

pub returns-in-Ok-prove_in : goal.returns-in-Ok-prove_in
returns-in-Ok-prove_in g c =
    let opens = c.in-Ok.ensures in
    let made = c.in-Ok-prove_in.ensures in
    wanting g.H.KeyHash.hash_of c.args.acc.now c.args.ty c.args.id.now.0 c.args.path.now (g.K.Store.moment c.args.store.now) (g.K.Store.moment c.open_root.new.store) (g.K.Store.moment c.prove.new.store) c.in-Ok.doc opens.answer opens.only made.only opens.gets
    (Ok c.in-Ok-prove_in.proof) made.stands

pub returns : goal.returns
returns g c =
    let opens = c.in-Ok.ensures in
    let made = c.in-Err-prove_in.ensures in
    rw c.made_fault.ensures (failed g.H.KeyHash.hash_of c.args.acc.now c.args.ty c.args.id.now.0 c.args.path.now (g.K.Store.moment c.args.store.now) (g.K.Store.moment c.open_root.new.store) (g.K.Store.moment c.prove.new.store) c.in-Ok.doc opens.answer opens.only made.only opens.gets
    c.in-Err-prove_in.fault made.stands made.failed made.refused)
