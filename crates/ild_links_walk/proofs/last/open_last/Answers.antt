use Rattle.std.proofs.Common.{Err, sym, subst}
use Rattle.ild_data.specs.Spell.{id_of}
use Rattle.ild_links_walk.proofs.Opening.{opens_err, opens_none, opens_ok}
use Rattle.ild_links_walk.specs.Last.{OpensLast}
use Rattle.ild_script.specs.declared.reply.No.{No}
use Rattle.ild_links_walk.proofs.last.open_last.Goals as goal

pub returns-in-Ok-open_root : goal.returns-in-Ok-open_root
returns-in-Ok-open_root g c =
    opens_ok id_of c.args.acc.now c.args.hop.now c.args.path.now (g.K.Store.moment c.args.store.now) (g.K.Store.moment c.open_root.new.store) c.standing_are_at.ensures c.in-Ok-open_root.doc c.in-Ok.rest c.in-Ok.ensures c.in-Ok-open_root.ensures

pub returns-in-Err : goal.returns-in-Err
returns-in-Err g c =
    subst (λ (r : No). OpensLast id_of c.args.acc.now c.args.hop.now c.args.path.now (g.K.Store.moment c.args.store.now) (Err r) (g.K.Store.moment c.open_root.new.store)) (sym c.open_refusal.ensures)
    (opens_err id_of c.args.acc.now c.args.hop.now c.args.path.now (g.K.Store.moment c.args.store.now) (g.K.Store.moment c.open_root.new.store) c.in-Err.fault c.in-Err.ensures)

pub returns-in_default : goal.returns-in_default
returns-in_default g c = opens_none id_of c.args.acc.now c.args.hop.now c.args.path.now (g.K.Store.moment c.args.store.now)
