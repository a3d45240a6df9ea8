use Rattle.ild_open_read.proofs.Knowing.{none_known}
use Rattle.ild_open_read.proofs.value.read.Goals as goal

pub read_slot-requires-clause-sound : goal.read_slot-requires-clause-sound
read_slot-requires-clause-sound g c = none_known g.H.KeyHash.hash_of c.args.acc.now (g.K.Store.moment c.args.store.now) c.new-known.result c.new-known.ensures.roots c.new-known.ensures.nodes

pub returns : goal.returns
returns g c = c.read_slot.ensures.reads
