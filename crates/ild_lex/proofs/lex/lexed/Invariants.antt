use Rattle.std.proofs.Common.{length}
use Rattle.ild_lex.proofs.First.{SoFar}
use Rattle.ild_lex.proofs.lex.lexed.Given as goal

-- what is read of the rest is, behind the tokens so far, what is read of all
abbrev pub invariant-loop-token : goal.invariant-loop-token
invariant-loop-token l = SoFar l.bytes l.left l.found

abbrev pub decreases-loop-token : goal.decreases-loop-token
decreases-loop-token l = length l.left
