use Rattle.std.proofs.Common.{sym, ◌∙◌, ap}
use Rattle.std.specs.Fmt.{signed_decimal}
use Rattle.std.specs.Option.{option_and_then}
use Rattle.ild_schema.specs.declared.def.TypeDef.TheVariants as D
use Rattle.ild_schema.specs.Parts.{part_spelled}
use Rattle.ild_schema.specs.Rows.{def_at}
use Rattle.ild_enum.proofs.Members.{integer_found, integer_missed}
use Rattle.ild_enum.proofs.member.by_integer.Goals as goal

pub returns-in-Some-part_spelled-clause-answer : goal.returns-in-Some-part_spelled-clause-answer
returns-in-Some-part_spelled-clause-answer c = λ t e stands known form.
    integer_found e t c.in-Some.integer c.in-Some-part_spelled.number form (c.in-Some.ensures c.args.acc.now t stands) c.decimal.ensures.within
    (c.recall.ensures.legible.made c.args.ty.0 (D.Enum e) known)
    (sym (ap (option_and_then (part_spelled (signed_decimal c.in-Some.integer))) known)
    ∙ sym (ap (λ text. option_and_then (part_spelled text) (def_at c.args.acc.now c.args.ty.0)) c.decimal.ensures.text) ∙ sym c.in-Some-part_spelled.ensures.same)

pub returns-in-None-clause-answer : goal.returns-in-None-clause-answer
returns-in-None-clause-answer c = λ t e stands known form.
    integer_missed e t c.in-Some.integer form (c.in-Some.ensures c.args.acc.now t stands) c.decimal.ensures.within
    (c.recall.ensures.legible.made c.args.ty.0 (D.Enum e) known)
    (sym (ap (option_and_then (part_spelled (signed_decimal c.in-Some.integer))) known)
    ∙ sym (ap (λ text. option_and_then (part_spelled text) (def_at c.args.acc.now c.args.ty.0)) c.decimal.ensures.text) ∙ sym c.in-None.ensures.same)
