use Rattle.ild_resolve.proofs.form.map_form_of.Goals as goal

pub returns-in-Some-Advanced-clause-words : goal.returns-in-Some-Advanced-clause-words
returns-in-Some-Advanced-clause-words c = λ numbers. rw (c.in-Some-Advanced.is, c.in-Some-Advanced.field-0-is) (c.layout.ensures.words numbers)
