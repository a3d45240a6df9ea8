use Rattle.ild_layer_parts.proofs.Rooting.{root_begins}
use Rattle.ild_layer_parts.proofs.root.RootEntries.of.Goals as goal

pub returns-clause-has : goal.returns-clause-has
returns-clause-has c = λ p slots has. root_begins p c.args.key c.args.value c.args.view.now slots has c.slots.result (c.slots.ensures p slots has)
