use Rattle.std.proofs.Common.{Ok, Err, subst}
use Rattle.ild_bulk.specs.Putting.{PutsAll}
use Rattle.ild_schema.specs.ValueSeen.{value_of}
use Rattle.ild_build_blocks.proofs.Ending.{done, put_faults, stopped, unplanned}
use Rattle.ild_build_blocks.proofs.block.build.Goals as goal

pub returns-in-Err : goal.returns-in-Err
returns-in-Err g c = unplanned g.H.KeyHash.hash_of c.args.acc.now c.args.slot (value_of c.args.val.now) (g.K.Store.moment c.args.store.now) c.in-Err.fault c.in-Err.ensures

pub returns-in-Ok-put_all : goal.returns-in-Ok-put_all
returns-in-Ok-put_all g c =
    let m = g.K.Store.moment c.args.store.now in
    let n = g.K.Store.moment c.put_all.new.store in
    done g.H.KeyHash.hash_of c.args.acc.now c.args.slot (value_of c.args.val.now) m n c.in-Ok.planned c.in-Ok.ensures (subst (λ bs. PutsAll m bs (Ok tt) n) c.deref.ensures.value c.in-Ok-put_all.ensures)

pub returns-in-Err-put_all : goal.returns-in-Err-put_all
returns-in-Err-put_all g c =
    let m = g.K.Store.moment c.args.store.now in
    let n = g.K.Store.moment c.put_all.new.store in
    stopped g.H.KeyHash.hash_of c.args.acc.now c.args.slot (value_of c.args.val.now) m n c.in-Ok.planned c.in-Err-put_all.fault c.stopped_by.result c.in-Ok.ensures c.stopped_by.ensures
    (subst (λ bs. PutsAll m bs (Err c.in-Err-put_all.fault) n) c.deref.ensures.value c.in-Err-put_all.ensures)

pub stopped_by-requires : goal.stopped_by-requires
stopped_by-requires g c = put_faults (g.K.Store.moment c.args.store.now) (g.K.Store.moment c.put_all.new.store) c.deref.result.now c.in-Err-put_all.fault c.in-Err-put_all.ensures
