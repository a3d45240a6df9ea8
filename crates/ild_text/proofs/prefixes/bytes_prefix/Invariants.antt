use Rattle.ild_text.specs.Prefix.{bytes_mark}
use Rattle.ild_text.proofs.Behind.{NoneBefore}
use Rattle.ild_text.proofs.prefixes.bytes_prefix.Given as goal

abbrev pub invariant-loop-n : goal.invariant-loop-n
invariant-loop-n l = NoneBefore bytes_mark l.def.members l.bytes l.n
