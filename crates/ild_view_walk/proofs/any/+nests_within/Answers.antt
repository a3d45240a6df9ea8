use Rattle.std.proofs.Common.{sym, ◌∙◌}
use Rattle.ild_view_walk.proofs.Nesting.{items_on, members_on, not_false}
use Rattle.ild_view_walk.proofs.any.+nests_within.Goals as goal

pub loop-item-preserved : goal.loop-item-preserved
loop-item-preserved m c = λ u stands.
    items_on u _ c.loop-item.left c.next.new.self (c.loop-item.invariant u stands) c.in-Some-next.item c.in-Some-next.ensures.steps
    (λ d st. sym (not_false c.nests_within.result c.if-not-nests_within.false) ∙ c.nests_within.ensures d st)

pub loop-value-preserved : goal.loop-value-preserved
loop-value-preserved m c = λ u stands.
    members_on u _ c.loop-value.rest c.next-in-loop-value.new.self (c.loop-value.invariant u stands) (c.in-Some-next-2.field-0-0, c.in-Some-next-2.value) c.in-Some-next-2.ensures.steps
    (λ d st. sym (not_false c.nests_within-in-Some-next-2.result c.if-not-nests_within-2.false) ∙ c.nests_within-in-Some-next-2.ensures d st)
