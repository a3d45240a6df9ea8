use Rattle.std.proofs.Common.{◌≡◌, take, true}
use Rattle.std.specs.List.{AllByRecursion}
use Rattle.ild_build_leaf.specs.Kept.{is_before}
use Rattle.ild_build_leaf.proofs.order.count_before.Given as goal

abbrev pub invariant-loop-i : goal.invariant-loop-i
invariant-loop-i l = AllByRecursion (λ n. is_before l.fields l.key n ≡ true) (take l.i l.places)
