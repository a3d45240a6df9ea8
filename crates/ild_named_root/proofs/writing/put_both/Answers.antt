use Rattle.ild_named_root.proofs.Putting.{first_stopped, second_put}
use Rattle.ild_named_root.proofs.writing.put_both.Goals as goal

pub returns-in-Ok : goal.returns-in-Ok
returns-in-Ok g c =
    second_put c.args.text.now c.args.root.now (g.K.Store.moment c.args.store.now) (g.K.Store.moment c.put.new.store) (g.K.Store.moment c.put-in-Ok.new.store) c.in-Ok.ensures c.put-in-Ok.result c.put-in-Ok.ensures

pub returns-in-Err : goal.returns-in-Err
returns-in-Err g c = first_stopped c.args.text.now c.args.root.now (g.K.Store.moment c.args.store.now) (g.K.Store.moment c.put.new.store) c.in-Err.fault c.in-Err.ensures
