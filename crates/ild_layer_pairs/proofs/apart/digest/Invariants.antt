use Rattle.std.proofs.Common.{◌≡◌, length}
use Rattle.ild_layer_pairs.specs.Apart.{digest_behind, digest_of}
use Rattle.ild_layer_pairs.proofs.apart.digest.Given as goal

abbrev pub invariant-loop-byte : goal.invariant-loop-byte
invariant-loop-byte l = digest_behind l.digest l.left ≡ digest_of l.fn.text

abbrev pub decreases-loop-byte : goal.decreases-loop-byte
decreases-loop-byte l = length l.left
