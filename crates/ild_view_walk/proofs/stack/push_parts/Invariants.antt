use Rattle.std.proofs.Common.{List}
use Rattle.std.specs.List.{AllByRecursion}
use Rattle.ild_schema.specs.declared.row.Row.{Row}
use Rattle.ild_typed.specs.Spots.{Spot}
use Rattle.ild_layer_parts.specs.Parts.{HasLeft, parts_left}
use Rattle.ild_layer_parts.specs.Ready.{AreReady, IsReady}
use Rattle.ild_view_walk.proofs.Stacking.{Adding}
use Rattle.ild_view_walk.proofs.stack.push_parts.Given as goal

abbrev pub invariant-loop-part : goal.invariant-loop-part
invariant-loop-part l = record {
  adding : (rows : List Row) (ps : List Spot) → HasLeft rows l.initial.left ps → AreReady rows l.initial.left → Adding rows ps l.initial.todo.items l.todo.items l.left;
  ready : (rows : List Row) → AreReady rows l.initial.left → AreReady rows l.left;
  all : (rows : List Row) → AreReady rows l.initial.left → AllByRecursion (IsReady rows) l.initial.todo.items → AllByRecursion (IsReady rows) l.todo.items;
}

abbrev pub decreases-loop-part : goal.decreases-loop-part
decreases-loop-part l = parts_left l.left
