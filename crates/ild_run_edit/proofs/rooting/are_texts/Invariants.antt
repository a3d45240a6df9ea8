use Rattle.std.proofs.Common.{◌-◌, length, take}
use Rattle.std.specs.List.{AllByRecursion}
use Rattle.std.specs.Prelude.{IsUtf8}
use Rattle.ild_run_edit.proofs.rooting.are_texts.Given as goal

abbrev pub invariant-loop-k : goal.invariant-loop-k
invariant-loop-k l = AllByRecursion IsUtf8 (take l.k l.segments)

abbrev pub decreases-loop-k : goal.decreases-loop-k
decreases-loop-k l = length l.segments - l.k
