use Rattle.ild_schema.proofs.Legibly.{legible}
use Rattle.ild_schema.proofs.laws.accepted_are_legible.Goals as goal

pub returns : goal.returns
returns c = legible
