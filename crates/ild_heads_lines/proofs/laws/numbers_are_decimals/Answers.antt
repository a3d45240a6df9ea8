use Rattle.ild_heads_lines.proofs.Decimals.{numbers}
use Rattle.ild_heads_lines.proofs.laws.numbers_are_decimals.Goals as goal

pub returns : goal.returns
returns c = numbers
