use Rattle.ild_typed.proofs.TextLaws.{texts_represent}
use Rattle.ild_typed.proofs.texts_represent.Goals as goal

pub returns : goal.returns
returns c = texts_represent
