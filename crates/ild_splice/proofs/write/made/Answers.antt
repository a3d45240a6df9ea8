use Rattle.std.proofs.Common.{arith}
use Rattle.ild_splice.proofs.write.made.Goals as goal

pub returns-then-size : goal.returns-then-size
returns-then-size c = let same = c.size_of-size.ensures in omega arith
