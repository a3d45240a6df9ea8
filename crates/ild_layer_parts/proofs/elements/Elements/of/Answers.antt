use Rattle.ild_layer_parts.proofs.Leading.{first_elements}
use Rattle.ild_layer_parts.proofs.elements.Elements.of.Goals as goal

pub returns-clause-has : goal.returns-clause-has
returns-clause-has c = λ ds has. first_elements c.args.slot c.args.items ds has
