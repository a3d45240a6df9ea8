use Rattle.std.proofs.Common.{ℕ, List}
use Rattle.ild_data.specs.Data.{Data}
use Rattle.ild_node.specs.Rows.{AreRows}
use Rattle.ild_bulk.specs.Keyed.{HasMarks}
use Rattle.ild_bulk.proofs.Building.{PlansParts}
use Rattle.ild_bulk.proofs.plan.plan_marks.Given as goal

abbrev pub invariant-loop-i : goal.invariant-loop-i
invariant-loop-i l = (h : List ℕ → List ℕ) (es : List (List ℕ × Data)) → HasMarks h l.shape l.depth l.bytes es l.parts → AreRows es → PlansParts h l.shape l.depth es l.i l.draft l.initial.blocks.items l.blocks.items
