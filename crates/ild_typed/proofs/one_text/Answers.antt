use Rattle.ild_typed.proofs.TextLaws.{one_value_of_text}
use Rattle.ild_typed.proofs.one_text.Goals as goal

pub returns : goal.returns
returns c = one_value_of_text
