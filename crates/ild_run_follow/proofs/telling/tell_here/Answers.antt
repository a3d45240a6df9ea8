use Rattle.std.proofs.Common.{subst}
use Rattle.ild_typed.specs.Schema.{IsSchema}
use Rattle.ild_run_follow.proofs.Loading.{tells_rep}
use Rattle.ild_run_follow.proofs.telling.tell_here.Goals as goal

pub returns-in_ok-rep-in-Representation-clause-tells : goal.returns-in_ok-rep-in-Representation-clause-tells
returns-in_ok-rep-in-Representation-clause-tells g c =
    let schema = subst IsSchema c.schema.ensures (record { table = c.recall.ensures.table; accepted = c.recall.ensures.accepted }) in
    rw c.in-Representation.is (tells_rep g.H.KeyHash.hash_of c.args.room c.args.view.now (g.K.Store.moment c.args.store.now) schema c.in_ok-rep-in-Representation.field-0 c.in_ok-rep-in-Representation.ensures)
