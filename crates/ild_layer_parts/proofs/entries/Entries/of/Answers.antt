use Rattle.std.proofs.Common.{refl}
use Rattle.ild_layer_parts.proofs.entries.Entries.of.Goals as goal

pub returns-clause-has : goal.returns-clause-has
returns-clause-has c = λ es has. record { entries = es; left = has; at = 0; is = refl }
