use Rattle.std.proofs.Common.{ℕ, List, map, take}
use Rattle.ild_data.specs.Data.{Data}
use Rattle.ild_node.specs.Hashed.{AreHashed}
use Rattle.ild_bulk.specs.Keyed.{AreMarked}
use Rattle.ild_bulk.proofs.entries.pieces.Given as goal

abbrev pub invariant-loop-marked : goal.invariant-loop-marked
invariant-loop-marked g l = (h : List ℕ → List ℕ) (es : List (List ℕ × Data)) → AreMarked h l.bytes es (map g.M.Marked.mark_seen l.marks) → AreHashed h (take l.marked-index es) l.pieces.items
