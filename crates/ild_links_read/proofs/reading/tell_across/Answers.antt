use Rattle.std.proofs.Common.{List, length, ◌<◌, refl, sym, subst}
use Rattle.ild_data.specs.Spell.{id_of}
use Rattle.ild_links_read.proofs.Crossing.{crosses}
use Rattle.ild_links_read.specs.Reads.{TellsIn}
use Rattle.ild_links_walk.proofs.Crossings.{crosses_none, crosses_refused}
use Rattle.ild_links_walk.proofs.Lasts.{crossed_typed}
use Rattle.ild_run_reads.specs.Replies.{asked as told_as}
use Rattle.ild_schema.specs.declared.row.Row.{Row}
use Rattle.ild_script_meaning.specs.Ask.{to_tell}
use Rattle.ild_view_doc.specs.Docs.{table_in}
use Rattle.ild_links_read.proofs.reading.tell_across.Goals as goal

pub returns-in-Err : goal.returns-in-Err
returns-in-Err g c = λ inside.
    crosses_refused id_of c.args.doc.now inside (to_tell (told_as c.args.what) c.args.path.now) c.args.path.now (g.K.Store.moment c.args.store.now) (g.K.Store.moment c.walk.new.store) refl c.in-Err.refusal c.in-Err.ensures

pub tell_in-requires : goal.tell_in-requires
tell_in-requires g c =
    subst (λ (rows : List Row). c.in-Some.hop.now.ty.0 < length rows) (sym c.schema.ensures)
    (crossed_typed (length (table_in c.args.doc.now)) c.in-Ok.hops c.in-Some.hop.now c.in-Ok.ensures.hops.1 (sym c.in-Some.ensures))

pub returns-in-Some : goal.returns-in-Some
returns-in-Some g c =
    let m = g.K.Store.moment c.args.store.now in
    let k = g.K.Store.moment c.walk.new.store in
    let n = g.K.Store.moment c.tell_in.new.store in
    let tells = subst (λ (rows : List Row). TellsIn id_of rows c.in-Some.hop.now c.args.path.now (told_as c.args.what) k c.tell_in.result n) c.schema.ensures c.tell_in.ensures in
    λ inside. crosses id_of c.args.doc.now inside (told_as c.args.what) c.args.path.now m k n c.in-Ok.hops c.in-Some.hop.now c.tell_in.result c.in-Ok.ensures (sym c.in-Some.ensures) tells

pub returns : goal.returns
returns g c = λ inside.
    crosses_none id_of c.args.doc.now inside (to_tell (told_as c.args.what) c.args.path.now) c.args.path.now (g.K.Store.moment c.args.store.now) (g.K.Store.moment c.walk.new.store) c.in-Ok.hops c.in-Ok.ensures (sym c.in-None.ensures)
