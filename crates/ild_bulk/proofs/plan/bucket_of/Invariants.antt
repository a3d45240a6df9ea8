use Rattle.std.proofs.Common.{◌≡◌, take}
use Rattle.ild_node.specs.Rows.{rows_seen}
use Rattle.ild_node.specs.Keyed.{keyed_rows}
use Rattle.ild_bulk.proofs.plan.bucket_of.Given as goal

abbrev pub invariant-loop-keyed : goal.invariant-loop-keyed
invariant-loop-keyed l = rows_seen l.copies.items ≡ keyed_rows (take l.keyed-index l.rows)
