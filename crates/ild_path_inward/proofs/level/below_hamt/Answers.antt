use Rattle.std.proofs.Common.{arith}
use Rattle.ild_path_inward.proofs.level.below_hamt.Goals as goal

pub returns-clause-less : goal.returns-clause-less
returns-clause-less c = λ le. omega (arith, le, c.min.ensures, c.saturating_sub.ensures)

pub returns-clause-deep : goal.returns-clause-deep
returns-clause-deep c = omega (arith, c.min.ensures, c.saturating_sub.ensures)
