use Rattle.std.proofs.Common.{◌≡◌, length}
use Rattle.ild_lex.specs.inside.Scan.{piece_of_text}
use Rattle.ild_lex.proofs.scan.text_at.Given as goal

abbrev pub invariant-loop-rest : goal.invariant-loop-rest
invariant-loop-rest l = piece_of_text l.rest ≡ piece_of_text l.fn.bytes

abbrev pub decreases-loop-rest : goal.decreases-loop-rest
decreases-loop-rest l = length l.rest
