use Rattle.std.proofs.Common.{Some, None, ◌∙◌, ap}
use Rattle.ild_union.specs.inside.Answers.{word_of}
use Rattle.ild_union.proofs.Kinding.{word_is, of_kind, of_no_kind, placed}
use Rattle.ild_union.proofs.kinded.kinded.Goals as goal

pub returns-in-Some-clause-answer : goal.returns-in-Some-clause-answer
returns-in-Some-clause-answer c = λ rows t stands form.
    (t, stands, of_kind c.args.def.now t c.word_of-word.result c.in-Some.number form (c.word_of-word.ensures ∙ ap word_of (c.kind.ensures rows t stands) ∙ word_is t) (placed c.as_slice.result.now c.args.def.now.members c.word_of-word.result (Some c.in-Some.number) c.as_slice.ensures c.in-Some.ensures.first))

pub returns-in-None-clause-answer : goal.returns-in-None-clause-answer
returns-in-None-clause-answer c = λ rows t stands form.
    of_no_kind c.args.def.now t c.word_of-word.result form (c.word_of-word.ensures ∙ ap word_of (c.kind.ensures rows t stands) ∙ word_is t) (placed c.as_slice.result.now c.args.def.now.members c.word_of-word.result None c.as_slice.ensures c.in-None.ensures.first)
