use Rattle.std.proofs.Common.{take}
use Rattle.ild_node.specs.Rows.{rows_seen}
use Rattle.ild_bulk.specs.Keyed.{HasEntries}
use Rattle.ild_bulk.proofs.entries.entries_of.Given as goal

abbrev pub invariant-loop-row : goal.invariant-loop-row
invariant-loop-row g l = HasEntries g.H.KeyHash.hash_of (rows_seen (take l.row-index l.rows)) l.entries
