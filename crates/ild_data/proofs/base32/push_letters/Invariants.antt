use Rattle.std.proofs.Common.{◌≡◌, ℕ, List, ◌++◌, length, string_bytes}
use Rattle.ild_data.specs.Base32.{letters}
use Rattle.ild_data.proofs.base32.push_letters.Given as goal

-- what stands and what is held spell the same
abbrev pub invariant-loop-out : goal.invariant-loop-out
invariant-loop-out l = (rest : List ℕ) → string_bytes l.out ++ letters (l.held ++ rest) ≡ string_bytes l.fn.out ++ letters (l.fn.held ++ rest)

abbrev pub decreases-loop-out : goal.decreases-loop-out
decreases-loop-out l = length l.held
