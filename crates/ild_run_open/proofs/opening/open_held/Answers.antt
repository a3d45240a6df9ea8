use Rattle.ild_run_open.proofs.Rooted.{starts}
use Rattle.ild_run_open.proofs.opening.open_held.Goals as goal

pub returns-in-Ok : goal.returns-in-Ok
returns-in-Ok g c = starts g.H.KeyHash.hash_of c.args.acc.now c.args.ty c.args.root (g.K.Store.moment c.args.store.now) (g.K.Store.moment c.open_root.new.store) c.in-Ok.doc c.in-Ok.ensures
