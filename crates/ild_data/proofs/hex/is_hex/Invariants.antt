use Rattle.std.proofs.Common.{◌≡◌, is_some, length}
use Rattle.ild_data.specs.Hex.{bytes_of_hex}
use Rattle.ild_data.proofs.hex.is_hex.Given as goal

abbrev pub invariant-loop-rest : goal.invariant-loop-rest
invariant-loop-rest l = is_some (bytes_of_hex l.rest) ≡ is_some (bytes_of_hex l.text)

abbrev pub decreases-loop-rest : goal.decreases-loop-rest
decreases-loop-rest l = length l.rest
