use Rattle.std.proofs.Common.{ℕ, ◌<◌, length, get_or, Contains}
use Rattle.std.specs.List.{All}
use Rattle.ild_accept.specs.inside.Search.{Grown, Has}
use Rattle.ild_accept.proofs.cycle.push_all.Given as goal

abbrev pub invariant-loop-t : goal.invariant-loop-t
invariant-loop-t l = record {
  grown : Grown (Contains l.steps) l.initial.seen.items l.initial.stack.items l.seen.items l.stack.items;
  within : All (λ t. t < length l.seen.items) l.steps;
  all : (j d : ℕ) → j < l.t-index → Has l.seen.items (get_or l.steps j d);
}
