use Rattle.std.proofs.Common.{Ok, Err}
use Rattle.ild_schema.specs.ValueSeen.{value_of}
use Rattle.ild_run_create.proofs.Blocks.{has_block}
use Rattle.ild_run_create.proofs.block.block_of.Goals as goal

pub returns-in-Ok : goal.returns-in-Ok
returns-in-Ok g c =
    let judged = rw c.in-Ok-None.field-0-is at c.in-Ok-None.ensures in
    has_block g.H.KeyHash.hash_of c.args.acc.now c.args.ty (value_of c.args.val.now) (g.K.Store.moment c.args.store.now) (g.K.Store.moment c.build.new.store) (Ok c.in-Ok.block) judged c.in-Ok.ensures

pub returns-in-Err-build : goal.returns-in-Err-build
returns-in-Err-build g c =
    let judged = rw c.in-Ok-None.field-0-is at c.in-Ok-None.ensures in
    rw c.built_fault.ensures
    (has_block g.H.KeyHash.hash_of c.args.acc.now c.args.ty (value_of c.args.val.now) (g.K.Store.moment c.args.store.now) (g.K.Store.moment c.build.new.store) (Err c.in-Err-build.fault) judged c.in-Err-build.ensures)
