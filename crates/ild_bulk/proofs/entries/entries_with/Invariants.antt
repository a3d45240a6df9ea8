use Rattle.std.proofs.Common.{ℕ, List, take}
use Rattle.ild_node.specs.Keyed.{keyed_rows}
use Rattle.ild_bulk.specs.Keyed.{AreKeyed, HasEntries}
use Rattle.ild_bulk.proofs.entries.entries_with.Given as goal

abbrev pub invariant-loop-keyed : goal.invariant-loop-keyed
invariant-loop-keyed l = (h : List ℕ → List ℕ) → AreKeyed h l.rows → HasEntries h (keyed_rows (take l.keyed-index l.rows)) l.entries
