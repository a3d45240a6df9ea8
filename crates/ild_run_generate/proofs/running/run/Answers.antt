use Rattle.ild_run_generate.proofs.Begun.{run_cut, run_done, run_stopped}
use Rattle.ild_run_generate.proofs.running.run.Goals as goal

pub returns-in-Err : goal.returns-in-Err
returns-in-Err g c = run_stopped c.args.doc c.take_steps.new.doc c.args.seed c.args.count (g.K.Store.moment c.args.store.now) (g.K.Store.moment c.take_steps.new.store) c.in-Err.fault c.in-Err.ensures

pub returns-in-Err-count_entries : goal.returns-in-Err-count_entries
returns-in-Err-count_entries g c =
    run_cut c.args.doc c.take_steps.new.doc c.args.seed c.args.count (g.K.Store.moment c.args.store.now) (g.K.Store.moment c.take_steps.new.store) (g.K.Store.moment c.count_entries.new.store) c.in-Ok.counts c.in-Ok.ensures c.in-Err-count_entries.fault c.in-Err-count_entries.ensures

pub returns : goal.returns
returns g c =
    run_done c.args.doc c.take_steps.new.doc c.args.seed c.args.count (g.K.Store.moment c.args.store.now) (g.K.Store.moment c.take_steps.new.store) (g.K.Store.moment c.count_entries.new.store) c.in-Ok.counts c.in-Ok.ensures
    c.held_are_standing.ensures c.in-Ok-count_entries.len c.root.result c.in-Ok-count_entries.ensures c.root.ensures
