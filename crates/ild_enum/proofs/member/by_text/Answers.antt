use Rattle.std.proofs.Common.{sym, ◌∙◌, ap}
use Rattle.std.specs.Option.{option_and_then}
use Rattle.ild_schema.specs.Parts.{part_spelled}
use Rattle.ild_enum.proofs.Members.{text_found, text_missed}
use Rattle.ild_enum.proofs.member.by_text.Goals as goal

pub returns-in-Some-part_spelled-clause-answer : goal.returns-in-Some-part_spelled-clause-answer
returns-in-Some-part_spelled-clause-answer c = λ t e stands known form.
    text_found e t c.in-Some.text.now c.in-Some-part_spelled.number form (c.in-Some.ensures c.args.acc.now t stands)
    (sym (ap (option_and_then (part_spelled c.in-Some.text.now)) known) ∙ sym c.in-Some-part_spelled.ensures.same)

pub returns-in-None-clause-answer : goal.returns-in-None-clause-answer
returns-in-None-clause-answer c = λ t e stands known form.
    text_missed e t c.in-Some.text.now form (c.in-Some.ensures c.args.acc.now t stands)
    (sym (ap (option_and_then (part_spelled c.in-Some.text.now)) known) ∙ sym c.in-None.ensures.same)
