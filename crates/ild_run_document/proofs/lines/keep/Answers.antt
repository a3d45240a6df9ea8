use Rattle.ild_run_document.proofs.Turning.{keeps, stays_open}
use Rattle.ild_run_document.proofs.lines.keep.Goals as goal

pub returns-in-Ok : goal.returns-in-Ok
returns-in-Ok g c = keeps c.args.doc.now c.args.begun.doc c.args.own.now c.clear.new.self (g.K.Store.moment c.args.store.now) (g.K.Store.moment c.commit.new.store) c.root.result c.root.ensures c.in-Ok.ensures.commits

pub returns : goal.returns
returns g c = rw (c.refusal.ensures, c.in-Err.ensures.own) (stays_open c.args.doc.now c.args.begun.doc c.args.own.now (g.K.Store.moment c.args.store.now) (g.K.Store.moment c.commit.new.store) c.in-Err.fault c.requires c.in-Err.ensures.commits)
