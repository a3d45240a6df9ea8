use Rattle.ild_union.proofs.Prefixing.{no_bytes_prefix}
use Rattle.ild_union.proofs.prefixed.behind_bytes.Goals as goal

pub returns-in-None-clause-answer : goal.returns-in-None-clause-answer
returns-in-None-clause-answer c = λ rows t stands form. no_bytes_prefix c.args.def.now t c.in-Some.bytes.now form (c.in-Some.ensures rows t stands) c.in-None.ensures
