use Rattle.std.proofs.Common.{◌≡◌, length}
use Rattle.std.specs.Prelude.{Ok}
use Rattle.ild_bulk_walker.specs.inside.Stepping.{Leaves}
use Rattle.ild_bulk_walker.proofs.walker.Walker.leave_done.Given as goal

abbrev pub decreases-loop-before : goal.decreases-loop-before
decreases-loop-before l = length l.self.path.items

abbrev pub invariant-loop-before : goal.invariant-loop-before
invariant-loop-before l = Leaves l.initial.self.shape l.initial.self (Ok tt) l.self × (l.self.shape ≡ l.initial.self.shape)
