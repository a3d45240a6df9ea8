use Rattle.ild_layer_parts.proofs.Leading.{first_pairs}
use Rattle.ild_layer_parts.proofs.pair_entries.PairEntries.of.Goals as goal

pub returns-clause-has : goal.returns-clause-has
returns-clause-has c = λ es has. first_pairs c.args.key c.args.value c.args.items es has
