use Rattle.ild_named_root.proofs.Reading.{deeper_broken, deeper_failed, deeper_found, deeper_wanting}
use Rattle.ild_named_root.proofs.loading.deeper.Goals as goal

pub returns-in-Ok : goal.returns-in-Ok
returns-in-Ok g c =
    deeper_found c.args.acc.now (record { table = c.recall.ensures.table; accepted = c.recall.ensures.accepted }) g.H.KeyHash.hash_of c.args.ty c.args.block.now (g.K.Store.moment c.args.store.now)
    (g.K.Store.moment c.read_in.new.store) c.requires.front c.in-Ok.ensures

pub returns-in-Err-Block : goal.returns-in-Err-Block
returns-in-Err-Block g c =
    deeper_broken c.args.acc.now (record { table = c.recall.ensures.table; accepted = c.recall.ensures.accepted }) g.H.KeyHash.hash_of c.args.ty c.args.block.now (g.K.Store.moment c.args.store.now)
    (g.K.Store.moment c.read_in.new.store) c.requires.front c.in-Err-Block.id c.in-Err-Block.why (rw c.in-Err-Block.field-0-is at c.in-Err-Block.ensures)

pub returns-in-Err-Store : goal.returns-in-Err-Store
returns-in-Err-Store g c =
    deeper_failed c.args.acc.now (record { table = c.recall.ensures.table; accepted = c.recall.ensures.accepted }) g.H.KeyHash.hash_of c.args.ty c.args.block.now (g.K.Store.moment c.args.store.now)
    (g.K.Store.moment c.read_in.new.store) c.requires.front (rw c.in-Err-Store.field-0-is at c.in-Err-Store.ensures)

pub returns-in-Err-Memory : goal.returns-in-Err-Memory
returns-in-Err-Memory g c =
    deeper_wanting c.args.acc.now (record { table = c.recall.ensures.table; accepted = c.recall.ensures.accepted }) g.H.KeyHash.hash_of c.args.ty c.args.block.now (g.K.Store.moment c.args.store.now)
    (g.K.Store.moment c.read_in.new.store) c.requires.front (rw c.in-Err-Memory.field-0-is at c.in-Err-Memory.ensures)
