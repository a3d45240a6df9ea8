use Rattle.ild_data.specs.Spell.{id_of}
use Rattle.ild_links_read.proofs.Telling.{tells_err, tells_ok}
use Rattle.ild_run_reads.specs.Replies.{asked as told_as}
use Rattle.ild_links_read.proofs.reading.tell_in.Goals as goal

pub returns-in-Ok : goal.returns-in-Ok
returns-in-Ok g c =
    tells_ok id_of c.args.acc.now c.args.hop.now c.args.path.now (told_as c.args.what) (g.K.Store.moment c.args.store.now) (g.K.Store.moment c.open_last.new.store) (g.K.Store.moment c.tell.new.store) c.in-Ok.last c.in-Ok.rest c.tell.result c.in-Ok.ensures c.tell.ensures

pub returns-in-Err : goal.returns-in-Err
returns-in-Err g c = tells_err id_of c.args.acc.now c.args.hop.now c.args.path.now (told_as c.args.what) (g.K.Store.moment c.args.store.now) (g.K.Store.moment c.open_last.new.store) c.in-Err.refusal c.in-Err.ensures
