use Rattle.std.proofs.Common.{◌≡◌, ◌++◌, length}
use Rattle.std.specs.Prelude.{option_map}
use Rattle.ild_data.specs.Hex.{bytes_of_hex}
use Rattle.ild_accept_rules.proofs.hex.bytes_of_hex.Given as goal

abbrev pub invariant-loop-rest : goal.invariant-loop-rest
invariant-loop-rest l = bytes_of_hex l.text ≡ option_map (λ more. l.bytes.items ++ more) (bytes_of_hex l.rest)

abbrev pub decreases-loop-rest : goal.decreases-loop-rest
decreases-loop-rest l = length l.rest
