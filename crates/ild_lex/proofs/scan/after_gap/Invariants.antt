use Rattle.std.proofs.Common.{◌≡◌, false, length}
use Rattle.ild_lex.specs.inside.Scan.{skip}
use Rattle.ild_lex.proofs.scan.after_gap.Given as goal

-- what is left of the rest is left of all
abbrev pub invariant-loop-rest : goal.invariant-loop-rest
invariant-loop-rest l = skip l.comment l.rest ≡ skip false l.fn.bytes

abbrev pub decreases-loop-rest : goal.decreases-loop-rest
decreases-loop-rest l = length l.rest
