use Rattle.ild_named_root.proofs.Rooting.{named_put, not_loaded, not_made, not_put}
use Rattle.ild_named_root.proofs.naming.name_block.Goals as goal

pub returns-in-Err : goal.returns-in-Err
returns-in-Err g c =
    not_loaded c.args.acc.now (record { table = c.recall.ensures.table; accepted = c.recall.ensures.accepted }) g.H.KeyHash.hash_of c.args.ty c.args.block.now c.args.name.now c.args.source.now
    (g.K.Store.moment c.args.store.now) (g.K.Store.moment c.load_beneath.new.store) c.in-Err.fault c.in-Err.ensures

pub returns-in-Err-new_blocks : goal.returns-in-Err-new_blocks
returns-in-Err-new_blocks g c =
    not_made c.args.acc.now (record { table = c.recall.ensures.table; accepted = c.recall.ensures.accepted }) g.H.KeyHash.hash_of c.args.ty c.args.block.now c.args.name.now c.args.source.now
    (g.K.Store.moment c.args.store.now) (g.K.Store.moment c.load_beneath.new.store) c.in-Err-new_blocks.fault c.in-Ok.ensures c.in-Err-new_blocks.ensures.made c.in-Err-new_blocks.ensures.fault

pub returns-in-Ok-put_both : goal.returns-in-Ok-put_both
returns-in-Ok-put_both g c =
    named_put c.args.acc.now (record { table = c.recall.ensures.table; accepted = c.recall.ensures.accepted }) g.H.KeyHash.hash_of c.args.ty c.args.block.now c.args.name.now c.args.source.now
    (g.K.Store.moment c.args.store.now) (g.K.Store.moment c.load_beneath.new.store) (g.K.Store.moment c.put_both.new.store) _ _ c.in-Ok.ensures c.in-Ok-new_blocks.ensures.made c.utf8.name c.utf8.source c.id.result c.id.ensures
    c.in-Ok-put_both.ensures

pub returns : goal.returns
returns g c =
    not_put c.args.acc.now (record { table = c.recall.ensures.table; accepted = c.recall.ensures.accepted }) g.H.KeyHash.hash_of c.args.ty c.args.block.now c.args.name.now c.args.source.now
    (g.K.Store.moment c.args.store.now) (g.K.Store.moment c.load_beneath.new.store) (g.K.Store.moment c.put_both.new.store) _ _ c.in-Ok.ensures c.in-Ok-new_blocks.ensures.made c.utf8.name c.utf8.source c.in-Err-put_both.fault
    c.in-Err-put_both.ensures
