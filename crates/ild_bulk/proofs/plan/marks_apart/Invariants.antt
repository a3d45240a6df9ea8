use Rattle.std.proofs.Common.{◌≡◌, ◌^◌, ℕ, List, length, map, take}
use Rattle.ild_data.specs.Data.{Data}
use Rattle.ild_bulk.specs.Keyed.{AreMarked, HasMarks}
use Rattle.ild_bulk.proofs.plan.marks_apart.Given as goal

abbrev pub invariant-loop-marked : goal.invariant-loop-marked
invariant-loop-marked g l = record {
  many : length l.parts.items ≡ 2 ^ l.shape.width;
  apart : (h : List ℕ → List ℕ) (b : List ℕ) (es : List (List ℕ × Data)) → AreMarked h b es (map g.M.Marked.mark_seen l.marks) → HasMarks h l.shape l.depth b (take l.marked-index es) l.parts.items;
}
