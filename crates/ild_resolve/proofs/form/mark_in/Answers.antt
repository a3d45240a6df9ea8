use Rattle.ild_resolve.proofs.form.mark_in.Goals as goal

pub returns-in-Some-Kind-clause-words : goal.returns-in-Some-Kind-clause-words
returns-in-Some-Kind-clause-words c = λ numbers. rw (c.in-Some-Kind.is, c.in-Some-Kind.field-0-is) (c.kind_of.ensures.words numbers)
