use Rattle.std.proofs.Common.{◌≡◌, ℕ, List, take, drop}
use Rattle.ild_data.specs.ByteOrder.{without}
use Rattle.ild_node.specs.Keyed.{keyed_rows}
use Rattle.ild_node.specs.Rows.{rows_seen}
use Rattle.ild_bulk.proofs.Tries.{KeyedSoFar}
use Rattle.ild_hamt.specs.Ends.{hashes_of}
use Rattle.ild_hamt.proofs.hashing.keyed.Given as goal

abbrev pub invariant-loop-row : goal.invariant-loop-row
invariant-loop-row l =
    (keyed_rows l.keyed.items ≡ rows_seen (take l.row-index l.rows)) ×
    ((h : List ℕ → List ℕ) → l.hash ≡ h l.key → l.others ≡ hashes_of h (without l.key (rows_seen l.rows))
    → KeyedSoFar h l.rows l.row-index l.keyed.items × (l.left ≡ hashes_of h (without l.key (rows_seen (drop l.row-index l.rows)))))
