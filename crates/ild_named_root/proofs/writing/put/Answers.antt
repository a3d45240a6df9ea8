use Rattle.std.proofs.Common.{sym, subst}
use Rattle.std.specs.Prelude.{Err}
use Rattle.ild_named_root.specs.declared.fault.NameFault.{NameFault}
use Rattle.ild_named_root.specs.inside.Writing.{PutsOne}
use Rattle.ild_named_root.proofs.Putting.{one_fault, one_put, one_stopped}
use Rattle.ild_named_root.proofs.writing.put.Goals as goal

pub returns-in-Ok : goal.returns-in-Ok
returns-in-Ok g c = one_put (g.K.Store.moment c.args.store.now) (g.K.Store.moment c.put_one.new.store) c.args.block.now c.in-Ok.ensures

pub put_fault-requires : goal.put_fault-requires
put_fault-requires g c = one_fault (g.K.Store.moment c.args.store.now) (g.K.Store.moment c.put_one.new.store) c.args.block.now c.in-Err.fault c.in-Err.ensures

pub returns-in-Err : goal.returns-in-Err
returns-in-Err g c =
    subst (λ (e : NameFault). PutsOne (g.K.Store.moment c.args.store.now) c.args.block.now (Err e) (g.K.Store.moment c.put_one.new.store)) (sym c.put_fault.ensures)
    (one_stopped (g.K.Store.moment c.args.store.now) (g.K.Store.moment c.put_one.new.store) c.args.block.now c.in-Err.fault c.in-Err.ensures)
