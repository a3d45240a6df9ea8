use Rattle.std.proofs.Common.{ℕ, List, length}
use Rattle.ild_data.specs.Data.{Items}
use Rattle.ild_cbor.specs.inside.Row.{IsRow}
use Rattle.ild_cbor.proofs.Passes.{RowLeft}
use Rattle.ild_cbor.proofs.skip.skip.Given as goal

-- what is left is a row of items too, behind which the same bytes stand
abbrev pub invariant-loop-left : goal.invariant-loop-left
invariant-loop-left l = (ds : Items) (rest : List ℕ) → IsRow l.bytes l.n ds rest → RowLeft l.rest l.left rest

abbrev pub decreases-loop-left : goal.decreases-loop-left
decreases-loop-left l = length l.rest
