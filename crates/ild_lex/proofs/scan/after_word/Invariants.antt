use Rattle.std.proofs.Common.{◌≡◌, length}
use Rattle.ild_lex.specs.Bytes.{is_word_byte}
use Rattle.ild_lex.specs.inside.Scan.{skip_while}
use Rattle.ild_lex.proofs.scan.after_word.Given as goal

abbrev pub invariant-loop-rest : goal.invariant-loop-rest
invariant-loop-rest l = skip_while is_word_byte l.rest ≡ skip_while is_word_byte l.fn.bytes

abbrev pub decreases-loop-rest : goal.decreases-loop-rest
decreases-loop-rest l = length l.rest
