use Rattle.std.proofs.Common.{List}
use Rattle.std.specs.List.{AllByRecursion}
use Rattle.ild_typed.specs.Spots.{Spot}
use Rattle.ild_layer_parts.specs.Ready.{IsReady}
use Rattle.ild_view_walk.specs.inside.Stacked.{PartsAreAt, IsPlain}
use Rattle.ild_view_walk.proofs.Stacking.{Going}
use Rattle.ild_view_walk.proofs.stack.all_open.Given as goal

abbrev pub invariant-loop : goal.invariant-loop
invariant-loop l = record {
  ready : AllByRecursion (IsReady l.acc) l.left.items;
  going : (ps : List Spot) → PartsAreAt l.acc l.fn.todo.items ps → AllByRecursion (IsPlain l.acc) ps → Going l.acc ps l.left.items;
}
