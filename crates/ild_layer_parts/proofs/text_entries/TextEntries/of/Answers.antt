use Rattle.std.proofs.Common.{refl}
use Rattle.ild_layer_parts.proofs.text_entries.TextEntries.of.Goals as goal

pub returns-clause-has : goal.returns-clause-has
returns-clause-has c = λ inner entry. record { inner = inner; entry = entry; at = 0; is = refl }
