use Rattle.std.proofs.Common.{ℕ, ◌<◌}
use Rattle.ild_schema.specs.Cycles.{IsCyclic}
use Rattle.ild_accept.proofs.cycle.first_cyclic.Given as goal

abbrev pub invariant-loop-n : goal.invariant-loop-n
invariant-loop-n l = (m : ℕ) → m < l.n → IsCyclic l.schema m → ⊥
