use Rattle.std.proofs.Common.{◌≡◌, take}
use Rattle.ild_hamt_samples.specs.Pairs.{entries_of}
use Rattle.ild_hamt_samples.proofs.rows.rows_of.Given as goal

abbrev pub invariant-loop-pair : goal.invariant-loop-pair
invariant-loop-pair l = l.rows ≡ entries_of (take l.pair-index l.pairs)
