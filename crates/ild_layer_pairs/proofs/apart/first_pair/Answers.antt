use Rattle.std.proofs.Common.{◌≡◌, ℕ, Some, subst, arith}
use Rattle.std.proofs.Math.Logic.{∥∥₁_elim}
use Rattle.std.specs.Coded.{le_prop}
use Rattle.ild_cbor.specs.Steps.{Unfolds}
use Rattle.ild_layer_pairs.proofs.Digesting.{named_fewer, named_first}
use Rattle.ild_layer_pairs.proofs.apart.first_pair.Goals as goal

pub returns-clause-pair : goal.returns-clause-pair
returns-clause-pair c = λ ds has.
    let two : c.in_ok-unfold.field-0 ≡ 2 = omega arith in
    let opens : Unfolds c.args.items.now (Some 2) c.unfold.new.self = subst (λ (k : ℕ). Unfolds c.args.items.now (Some k) c.unfold.new.self) two c.in_ok-unfold.ensures in
    named_first c.args.items.now c.unfold.new.self c.next.new.self c.next-2.new.self c.in_ok-first.first c.in_ok-value.value c.in_ok-name.name.now opens c.in_ok-first.ensures.steps (λ e st. c.in_ok-name.ensures e st)
    c.in_ok-value.ensures.steps ds has

pub returns-clause-fewer : goal.returns-clause-fewer
returns-clause-fewer c =
    let two : c.in_ok-unfold.field-0 ≡ 2 = omega arith in
    let opens : Unfolds c.args.items.now (Some 2) c.unfold.new.self = subst (λ (k : ℕ). Unfolds c.args.items.now (Some k) c.unfold.new.self) two c.in_ok-unfold.ensures in
    ∥∥₁_elim c.args.items.now.stands le_prop (λ s.
    named_fewer c.args.items.now c.next-2.new.self c.in_ok-value.value c.in_ok-name.name.now
    (λ ds has. named_first c.args.items.now c.unfold.new.self c.next.new.self c.next-2.new.self c.in_ok-first.first c.in_ok-value.value c.in_ok-name.name.now opens c.in_ok-first.ensures.steps (λ e st. c.in_ok-name.ensures e st)
    c.in_ok-value.ensures.steps ds has) s)
