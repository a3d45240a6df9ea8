use Rattle.std.proofs.Common.{◌≡◌, [], ◌∷◌, sym, ◌∙◌, ap}
use Rattle.ild_layer_piece.proofs.Walking.{none_left, first_left}
use Rattle.ild_union.proofs.Both.{none_there, one_there, stranger_there, three_there, two_there, first_order, other_order, two_left, only_two}
use Rattle.ild_union.proofs.envelope.both.Goals as goal

pub returns-in_default : goal.returns-in_default
returns-in_default c = λ es left up apart.
    none_there c.args.key.now c.args.content.now es (none_left c.args.left c.next.new.self es (λ xs l. c.in_default.ensures.steps xs l) left)

pub returns-then-is_one : goal.returns-then-is_one
returns-then-is_one c = λ es left up apart.
    let one = first_left c.args.left c.next.new.self (c.in-Some.first, c.in-Some.one) es (λ xs l. c.in-Some.ensures.steps xs l) left in
    let end : one.rest ≡ [] = none_left c.next.new.self c.next-2.new.self one.rest (λ xs l. c.in_default-next.ensures.steps xs l) one.left in
    one_there c.args.key.now c.args.content.now es c.in-Some.first.now one.value apart (one.is ∙ ap (λ r. (c.in-Some.first.now, one.value) ∷ r) end) (sym c.is_one.ensures ∙ c.if-is_one.true)

pub returns-in_default-next : goal.returns-in_default-next
returns-in_default-next c = λ es left up apart.
    let one = first_left c.args.left c.next.new.self (c.in-Some.first, c.in-Some.one) es (λ xs l. c.in-Some.ensures.steps xs l) left in
    stranger_there c.args.key.now c.args.content.now es one.rest c.in-Some.first.now one.value one.is (sym c.is_one.ensures ∙ c.if-is_one.false)

pub returns-in-Some-next-2 : goal.returns-in-Some-next-2
returns-in-Some-next-2 c = λ es left up apart.
    let h = two_left c.args.left c.next.new.self c.next-2.new.self (c.in-Some.first, c.in-Some.one) (c.in-Some-next.second, c.in-Some-next.two) es
    (λ xs l. c.in-Some.ensures.steps xs l) (λ xs l. c.in-Some-next.ensures.steps xs l) left in
    let last = first_left c.next-2.new.self c.next-3.new.self c.in-Some-next-2.field-0 h.rest (λ xs l. c.in-Some-next-2.ensures.steps xs l) h.left in
    three_there c.args.key.now c.args.content.now es last.rest c.in-Some.first.now c.in-Some-next.second.now c.in-Some-next-2.field-0.0.now h.one h.two last.value up
    (h.is ∙ ap (λ r. (c.in-Some.first.now, h.one) ∷ (c.in-Some-next.second.now, h.two) ∷ r) last.is)

pub returns-then-are_both : goal.returns-then-are_both
returns-then-are_both c = λ es left up apart.
    let h = two_left c.args.left c.next.new.self c.next-2.new.self (c.in-Some.first, c.in-Some.one) (c.in-Some-next.second, c.in-Some-next.two) es
    (λ xs l. c.in-Some.ensures.steps xs l) (λ xs l. c.in-Some-next.ensures.steps xs l) left in
    let whole = only_two (c.in-Some.first, c.in-Some.one) (c.in-Some-next.second, c.in-Some-next.two) c.next-2.new.self c.next-3.new.self es h (λ xs l. c.in_default-next-2.ensures.steps xs l) in
    (h.one, h.two, h.first, h.second, first_order c.args.key.now c.args.content.now es c.in-Some.first.now c.in-Some-next.second.now h.one h.two whole (sym c.are_both.ensures ∙ c.if-are_both.true))

pub returns-then-are_both-2 : goal.returns-then-are_both-2
returns-then-are_both-2 c = λ es left up apart.
    let h = two_left c.args.left c.next.new.self c.next-2.new.self (c.in-Some.first, c.in-Some.one) (c.in-Some-next.second, c.in-Some-next.two) es
    (λ xs l. c.in-Some.ensures.steps xs l) (λ xs l. c.in-Some-next.ensures.steps xs l) left in
    let whole = only_two (c.in-Some.first, c.in-Some.one) (c.in-Some-next.second, c.in-Some-next.two) c.next-2.new.self c.next-3.new.self es h (λ xs l. c.in_default-next-2.ensures.steps xs l) in
    (h.two, h.one, h.second, h.first, other_order c.args.key.now c.args.content.now es c.in-Some.first.now c.in-Some-next.second.now h.one h.two whole (sym c.are_both-2.ensures ∙ c.if-are_both-2.true))

pub returns : goal.returns
returns c = λ es left up apart.
    let h = two_left c.args.left c.next.new.self c.next-2.new.self (c.in-Some.first, c.in-Some.one) (c.in-Some-next.second, c.in-Some-next.two) es
    (λ xs l. c.in-Some.ensures.steps xs l) (λ xs l. c.in-Some-next.ensures.steps xs l) left in
    let whole = only_two (c.in-Some.first, c.in-Some.one) (c.in-Some-next.second, c.in-Some-next.two) c.next-2.new.self c.next-3.new.self es h (λ xs l. c.in_default-next-2.ensures.steps xs l) in
    two_there c.args.key.now c.args.content.now es c.in-Some.first.now c.in-Some-next.second.now h.one h.two up whole (sym c.are_both.ensures ∙ c.if-are_both.false) (sym c.are_both-2.ensures ∙ c.if-are_both-2.false)
