use Rattle.std.proofs.Common.{◌≡◌, length}
use Rattle.ild_hamt_samples.proofs.entries.pseudo_random.Given as goal

abbrev pub invariant-loop-n : goal.invariant-loop-n
invariant-loop-n l = length l.rows ≡ l.n
