use Rattle.ild_named_root.proofs.Reading.{unmeasured}
use Rattle.ild_named_root.proofs.loading.load_beneath.Goals as goal

pub returns-in-Err : goal.returns-in-Err
returns-in-Err g c =
    unmeasured c.args.acc.now (record { table = c.recall.ensures.table; accepted = c.recall.ensures.accepted }) g.H.KeyHash.hash_of c.args.ty c.args.block.now (g.K.Store.moment c.args.store.now) c.in-Err.fault
    c.in-Err.ensures.fault c.in-Err.ensures.measures
