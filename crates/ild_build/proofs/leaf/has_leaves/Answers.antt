use Rattle.std.proofs.Common.{sym}
use Rattle.ild_build.proofs.Leaves.{leaves_of}
use Rattle.ild_build.proofs.leaf.has_leaves.Goals as goal

pub returns-in-Some : goal.returns-in-Some
returns-in-Some c = λ e. leaves_of c.args.acc.now c.args.def.now c.in-Some.slot (sym c.in-Some.ensures.same) (c.is_leaf.ensures e)
