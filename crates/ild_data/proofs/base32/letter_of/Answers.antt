use Rattle.std.proofs.Common.{arith}
use Rattle.std.proofs.lemmas.Grind.{common_steps}
use Rattle.ild_data.specs.Base32.{letter}
use Rattle.ild_data.proofs.base32.letter_of.Goals as goal

pub returns-clause-same : goal.returns-clause-same
unfolding letter
returns-clause-same c = grind (arith, common_steps)
