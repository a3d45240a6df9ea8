use Rattle.ild_open.proofs.Settling.{opened_value}
use Rattle.ild_open.proofs.opening.open_value.Goals as goal

pub returns-in-Ok : goal.returns-in-Ok
returns-in-Ok g c =
    opened_value g.H.KeyHash.hash_of c.args.acc.now c.args.ty c.args.id.now.0 (g.K.Store.moment c.args.store.now) (g.K.Store.moment c.open.new.store) c.in-Ok.opened c.in-Ok.ensures
