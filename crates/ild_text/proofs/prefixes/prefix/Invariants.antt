use Rattle.ild_schema.specs.Marks.{mark_text}
use Rattle.ild_text.proofs.Behind.{NoneBefore}
use Rattle.ild_text.proofs.prefixes.prefix.Given as goal

abbrev pub invariant-loop-n : goal.invariant-loop-n
invariant-loop-n l = NoneBefore mark_text l.def.members l.text l.n
