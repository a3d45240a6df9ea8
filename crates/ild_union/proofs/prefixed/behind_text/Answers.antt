use Rattle.ild_union.proofs.Prefixing.{no_text_prefix}
use Rattle.ild_union.proofs.prefixed.behind_text.Goals as goal

pub returns-in-None-clause-answer : goal.returns-in-None-clause-answer
returns-in-None-clause-answer c = λ rows t stands form. no_text_prefix c.args.def.now t c.in-Some.text.now form (c.in-Some.ensures rows t stands) c.in-None.ensures
