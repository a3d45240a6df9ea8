use Rattle.std.proofs.Common.{◌≡◌, [], ◌∷◌, length, Some, ◌∙◌, ap, arith}
use Rattle.ild_cbor.specs.declared.piece.Piece.TheVariants as P
use Rattle.ild_schema.specs.Rows.{def_at}
use Rattle.ild_schema.specs.declared.def.UnionForm.TheVariants as UF
use Rattle.ild_typed.specs.Strings.{members_in}
use Rattle.ild_layer_piece.proofs.Walking.{walked, none_left, first_left}
use Rattle.ild_union.proofs.Keying.{keyed_told, keyed_count}
use Rattle.ild_union.proofs.Marking.{answered}
use Rattle.ild_union.proofs.keyed.keyed.Goals as goal

pub returns-in-None-clause-answer : goal.returns-in-None-clause-answer
returns-in-None-clause-answer c = λ t u stands known form.
    let w = walked t c.in-Some.left (c.in-Some.ensures t stands) in
    let one = first_left c.in-Some.left c.next.new.self (c.in-Some-next.name, c.in-Some-next.node) w.entries (λ es left. c.in-Some-next.ensures.steps es left) w.left in
    let end : one.rest ≡ [] = none_left c.next.new.self c.next-2.new.self one.rest (λ es left. c.in-None.ensures.steps es left) one.left in
    let is : members_in t ≡ Some ((c.in-Some-next.name.now, one.value) ∷ []) = w.is ∙ ap Some (one.is ∙ ap (λ r. (c.in-Some-next.name.now, one.value) ∷ r) end) in
    answered c.args.acc.now u UF.Keyed t c.in-Some-next.name.now one.value form (keyed_told t c.in-Some-next.name.now one.value is) (P.Node c.in-Some-next.node) one.stands
    (def_at c.args.acc.now c.args.ty.0) known c.member.result c.member.ensures.answer

pub returns-in-Some-next-2-clause-answer : goal.returns-in-Some-next-2-clause-answer
returns-in-Some-next-2-clause-answer c = λ t u stands known form.
    let w = walked t c.in-Some.left (c.in-Some.ensures t stands) in
    let one = first_left c.in-Some.left c.next.new.self (c.in-Some-next.name, c.in-Some-next.node) w.entries (λ es left. c.in-Some-next.ensures.steps es left) w.left in
    let two = first_left c.next.new.self c.next-2.new.self c.in-Some-next-2.field-0 one.rest (λ es left. c.in-Some-next-2.ensures.steps es left) one.left in
    keyed_count u t w.entries form w.is (let a = ap length one.is in let b = ap length two.is in λ h. omega (arith, a, b, h))
