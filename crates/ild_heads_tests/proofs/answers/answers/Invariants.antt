use Rattle.std.specs.Prelude.{◌≡◌, slice_index}
use Rattle.ild_heads.specs.Legal.{AreLegal}
use Rattle.ild_heads_tests.specs.Adds.{Adds}
use Rattle.ild_heads_tests.proofs.answers.answers.Given as goal

-- all is legal before each line
abbrev pub invariant-loop-line : goal.invariant-loop-line
invariant-loop-line l = AreLegal (λ root v. v ≡ slice_index root 0) Adds l.heads
