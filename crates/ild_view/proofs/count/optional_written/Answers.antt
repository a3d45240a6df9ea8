use Rattle.std.proofs.Common.{◌≡◌, ◌+◌, ℕ, subst, arith}
use Rattle.ild_view.proofs.Counting.{Tallied, tally_begin, tally_end, tally_on}
use Rattle.ild_view.proofs.count.optional_written.Goals as goal

pub loop-number-init : goal.loop-number-init
loop-number-init c = λ xs has few. tally_begin c.args.fields.now xs c.args.present has

pub loop-number-preserved-then-not-is_optional : goal.loop-number-preserved-then-not-is_optional
loop-number-preserved-then-not-is_optional c = λ xs has few.
    tally_on c.args.fields.now xs c.loop-number.count c.loop-number.left c.next.new.self (c.loop-number.invariant xs has few) c.in-Some.number c.in-Some.field-0-1 _ c.in-Some.ensures.steps c.if-not-is_optional.ensures

pub loop-number-preserved : goal.loop-number-preserved
loop-number-preserved c = λ xs has few.
    let x = tally_on c.args.fields.now xs c.loop-number.count c.loop-number.left c.next.new.self (c.loop-number.invariant xs has few) c.in-Some.number c.in-Some.field-0-1 _ c.in-Some.ensures.steps c.if-not-is_optional.ensures in
    let sum = x.sum in
    let one : c.loop-number.count + 1 ≡ c.saturating_add-count.result = omega (arith, sum, few, c.saturating_add-count.ensures) in
    subst (λ (n : ℕ). Tallied c.args.fields.now xs n c.next.new.self) one x

pub returns : goal.returns
returns c = λ xs has few.
    tally_end c.args.fields.now xs c.loop-number.count c.loop-number.left c.next.new.self (c.loop-number.invariant xs has few) c.in_default.ensures.steps
