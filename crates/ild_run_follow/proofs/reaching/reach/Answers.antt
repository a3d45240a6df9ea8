use Rattle.std.proofs.Common.{◌≡◌, ◌<◌, ◌+◌, ◌-◌, length, refl, ap, ◌∙◌, arith}
use Rattle.ild_run_follow.proofs.Walking.{ends_here, left_here, left_there, segment_at, stops_as, walked_begins, walked_on}
use Rattle.ild_run_follow.proofs.reaching.reach.Goals as goal

pub loop-k-init : goal.loop-k-init
loop-k-init c = (λ f v. walked_begins c.args.view.now f c.args.from c.args.room c.args.path.now v, omega arith)

pub returns-in_default-clause-steps : goal.returns-in_default-clause-steps
returns-in_default-clause-steps c = λ f v. stops_as _ c.args.from c.loop-k.k c.args.room c.loop-k.left _ c.args.path.now c.loop-k.at (c.loop-k.invariant.0 f v) c.at.result c.at.ensures

pub returns-in_default-clause-leaves : goal.returns-in_default-clause-leaves
returns-in_default-clause-leaves c = λ f v.
    let all = c.as_slice-segments.result.now in
    let path = c.args.path.now in
    let count : length all ≡ length path = ap length c.as_slice-segments.ensures in
    let less : c.loop-k.k < length path = omega (arith, c.loop-k-test.true, count) in
    let is = segment_at all path c.loop-k.k c.as_str.result.now c.index-segments-k.result c.as_str.ensures.same c.index-segments-k.is c.as_slice-segments.ensures in
    left_there _ c.args.from c.loop-k.k c.args.room c.loop-k.left _ path c.loop-k.at (c.loop-k.invariant.0 f v) c.as_str.result.now less is c.in_default.ensures

pub loop-k-preserved : goal.loop-k-preserved
loop-k-preserved c =
    let all = c.as_slice-segments.result.now in
    let path = c.args.path.now in
    let count : length all ≡ length path = ap length c.as_slice-segments.ensures in
    let less : c.loop-k.k < length path = omega (arith, c.loop-k-test.true, count) in
    let is = segment_at all path c.loop-k.k c.as_str.result.now c.index-segments-k.result c.as_str.ensures.same c.index-segments-k.is c.as_slice-segments.ensures in
    let lower = c.saturating_sub-left.ensures ∙ ap (λ n. c.loop-k.left - n) c.levels.ensures in
    let low = c.loop-k.invariant.1 in (
      λ f v. walked_on _ c.args.from c.loop-k.k c.args.room c.loop-k.left _ path c.loop-k.at (c.loop-k.invariant.0 f v) c.as_str.result.now less is c.in-Some.part (c.loop-k.k + 1) refl c.saturating_sub-left.result lower c.in-Some.ensures,
      omega (arith, c.saturating_sub-left.ensures, low),
    )

pub returns-clause-steps : goal.returns-clause-steps
returns-clause-steps c = λ f v.
    let path = c.args.path.now in
    let count : length c.as_slice-segments.result.now ≡ length path = ap length c.as_slice-segments.ensures in
    ends_here _ c.args.from c.loop-k.k c.args.room c.loop-k.left _ path c.loop-k.at (c.loop-k.invariant.0 f v) (omega (arith, c.loop-k-test.false, count))

pub returns-clause-leaves : goal.returns-clause-leaves
returns-clause-leaves c = λ f v.
    let path = c.args.path.now in
    let count : length c.as_slice-segments.result.now ≡ length path = ap length c.as_slice-segments.ensures in
    left_here _ c.args.from c.loop-k.k c.args.room c.loop-k.left _ path c.loop-k.at (c.loop-k.invariant.0 f v) (omega (arith, c.loop-k-test.false, count))
