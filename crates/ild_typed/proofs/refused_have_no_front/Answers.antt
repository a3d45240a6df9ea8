use Rattle.ild_schema.proofs.Legibly.{legible}
use Rattle.ild_typed.proofs.WalkSound.{refused_sound}
use Rattle.ild_typed.proofs.refused_have_no_front.Goals as goal

pub returns : goal.returns
returns c = λ rows schema room s safe t r refused f front. refused_sound rows (legible rows schema.accepted).clear (legible rows schema.accepted).delims room 0 s safe t r refused (f, front.fits, front.tree)
