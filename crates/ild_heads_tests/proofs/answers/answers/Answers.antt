use Rattle.std.proofs.Common.{sym, subst}
use Rattle.ild_heads.specs.Legal.{AreLegal}
use Rattle.ild_heads.proofs.Legality.{nothing_legal}
use Rattle.ild_heads_tests.proofs.answers.answers.Goals as goal

pub loop-line-init : goal.loop-line-init
loop-line-init c = subst (AreLegal _ _) (sym c.new-heads.ensures) (nothing_legal _ _)
