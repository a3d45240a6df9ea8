use Rattle.std.proofs.Common.{◌≡◌, ◌<◌, length, refl, ap, ◌∙◌, arith}
use Rattle.ild_node_slots.specs.Places.{elements_before}
use Rattle.ild_hamt_climb.proofs.Standing.{before_more, small_number}
use Rattle.ild_hamt_climb.proofs.element.count_before.Goals as goal

pub loop-j-init : goal.loop-j-init
loop-j-init c = λ p slots has within. (refl, omega arith, omega arith)

pub loop-j-preserved : goal.loop-j-preserved
loop-j-preserved c = λ p slots has within.
    let lt : c.loop-j.j < length slots = omega arith in
    let was = c.loop-j.invariant p slots has within in
    let more = before_more slots c.loop-j.j c.is_used.result lt (c.is_used.ensures p slots has lt) in
    let one = small_number c.is_used.result in
    let sum = c.saturating_add-count.ensures in
    (omega (arith, was.0, was.1, more, one, sum), omega (arith, was.1, one, sum), omega arith)

pub returns : goal.returns
returns c = λ p slots has within.
    let was = c.loop-j.invariant p slots has within in
    let same : c.loop-j.j ≡ c.args.i = omega (arith, was.2, c.loop-j-test.false) in
    was.0 ∙ ap (elements_before slots) same
