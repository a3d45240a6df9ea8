use Rattle.ild_layer_parts.proofs.FieldSteps.{first_fields}
use Rattle.ild_layer_parts.proofs.fields.Fields.of.Goals as goal

pub returns-clause-has : goal.returns-clause-has
returns-clause-has c = λ rows legible ty t is h. first_fields rows legible ty t c.args.def.now is c.args.parts h c.requires
