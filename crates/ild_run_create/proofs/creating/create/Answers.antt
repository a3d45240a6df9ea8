use Rattle.std.proofs.Common.{Ok, Err}
use Rattle.ild_schema.specs.ValueSeen.{value_of}
use Rattle.ild_edges.proofs.Later.{Later-refl}
use Rattle.ild_run_create.proofs.Putting.{creates, no_block, refused}
use Rattle.ild_run_create.proofs.creating.create.Goals as goal

pub returns-in-Err : goal.returns-in-Err
returns-in-Err g c =
    refused g.H.KeyHash.hash_of c.args.acc.now c.args.ty c.args.bytes.now (g.K.Store.moment c.args.store.now) c.in-Err.fault (Later-refl _) (c.in-Err.ensures.err g.H.KeyHash.hash_of)

pub returns-in-Err-block_of : goal.returns-in-Err-block_of
returns-in-Err-block_of g c =
    no_block g.H.KeyHash.hash_of c.args.acc.now (record { table = c.recall.ensures.table; accepted = c.recall.ensures.accepted }) c.args.ty c.args.bytes.now (value_of c.in-Ok.val)
    (g.K.Store.moment c.args.store.now) (g.K.Store.moment c.block_of.new.store) c.in-Err-block_of.fault c.in-Ok.ensures.ok c.in-Err-block_of.ensures

pub returns-in-Ok-publish : goal.returns-in-Ok-publish
returns-in-Ok-publish g c =
    let puts = rw c.as_slice.ensures.same at c.in-Ok-publish.ensures in
    creates g.H.KeyHash.hash_of c.args.acc.now c.args.ty c.args.bytes.now (value_of c.in-Ok.val) c.in-Ok-block_of.block
    (g.K.Store.moment c.args.store.now) (g.K.Store.moment c.block_of.new.store) (g.K.Store.moment c.publish.new.store) (Ok c.in-Ok-publish.id) c.in-Ok.ensures.ok c.in-Ok-block_of.ensures puts

pub returns : goal.returns
returns g c =
    let puts = rw c.as_slice.ensures.same at c.in-Err-publish.ensures in
    rw c.put_fault.ensures (creates g.H.KeyHash.hash_of c.args.acc.now c.args.ty c.args.bytes.now (value_of c.in-Ok.val) c.in-Ok-block_of.block
    (g.K.Store.moment c.args.store.now) (g.K.Store.moment c.block_of.new.store) (g.K.Store.moment c.publish.new.store) (Err c.in-Err-publish.fault) c.in-Ok.ensures.ok c.in-Ok-block_of.ensures puts)
