use Rattle.ild_node_slots.proofs.Indexing.{bits-read}
use Rattle.ild_node_slots.proofs.level.bits_from.Goals as goal

pub returns-clause-bits : goal.returns-clause-bits
returns-clause-bits c = bits-read c.args.hash.now c.args.from c.args.count c.pair_at-two.result c.requires.few c.pair_at-two.ensures.small c.pair_at-two.ensures.two
