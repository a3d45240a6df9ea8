use Rattle.ild_edges.proofs.Later.{Later-refl}
use Rattle.ild_run_generate.proofs.Added.{adds_same}
use Rattle.ild_run_generate.proofs.Begun.{ran, stopped}
use Rattle.ild_run_generate.proofs.running.generate.Goals as goal

pub returns-in_default : goal.returns-in_default
returns-in_default g c =
    let m = g.K.Store.moment c.args.store.now in
    record { later = Later-refl m; failed = λ e. absurd cc; clashed = λ id e. absurd cc; blamed = λ id why e. absurd cc; told = λ held tests told are. record { answer = tt; adds = adds_same m _ } }

pub returns-in-Ok : goal.returns-in-Ok
returns-in-Ok g c =
    ran c.standing_are_at.ensures c.in-Some.schema c.in-Some.ensures c.args.seed c.args.count (g.K.Store.moment c.args.store.now) (g.K.Store.moment c.open.new.store) c.in-Ok.doc c.in-Ok.ensures (g.K.Store.moment c.run.new.store) c.run.result c.run.ensures

pub returns : goal.returns
returns g c =
    rw c.start_fault.ensures
    (stopped c.standing_are_at.ensures c.in-Some.schema c.in-Some.ensures c.args.seed c.args.count (g.K.Store.moment c.args.store.now) (g.K.Store.moment c.open.new.store) c.in-Err.fault c.in-Err.ensures)
