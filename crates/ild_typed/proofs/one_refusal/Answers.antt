use Rattle.ild_schema.proofs.Legibly.{legible}
use Rattle.ild_typed.proofs.WalkOne.{refused_one}
use Rattle.ild_typed.proofs.one_refusal.Goals as goal

pub returns : goal.returns
returns c = λ rows schema room s t q r h k. refused_one rows (legible rows schema.accepted).clear (legible rows schema.accepted).delims room 0 s t q r h k
