use Rattle.std.proofs.Common.{◌≡◌, drop}
use Rattle.ild_heads_run.specs.Says.{says_no}
use Rattle.ild_heads_run.proofs.saying.says_no.Given as goal

abbrev pub invariant-loop-i : goal.invariant-loop-i
invariant-loop-i l = says_no l.line ≡ says_no (drop l.i l.line)
