use Rattle.std.proofs.Common.{ℕ, ◌<◌, ◌≤◌}
use Rattle.std.specs.List.{Contains}
use Rattle.ild_schema.specs.Cycles.{steps_at}
use Rattle.ild_accept.specs.inside.Search.{rank_of}
use Rattle.ild_accept.proofs.cycle.are_ranked.Given as goal

abbrev pub invariant-loop-n : goal.invariant-loop-n
invariant-loop-n l = (m t : ℕ) → m < l.n → Contains (steps_at l.schema m) t → rank_of l.ranks t ≤ rank_of l.ranks m
