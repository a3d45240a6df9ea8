use Rattle.std.proofs.Common.{◌≡◌, ◌<◌, ◌+◌, ◌-◌, length, refl, arith}
use Rattle.ild_path_replaced.proofs.Carrying.{before_begins, before_ends, before_goes, before_stops, begins, ends, goes_on, stops}
use Rattle.ild_path_replaced.proofs.along.replaced.Goals as goal

pub loop-k-init : goal.loop-k-init
loop-k-init c =
    let all = length c.args.steps.now in
    (omega arith, before_begins c.args.steps.now all refl, λ ws e there is. begins c.args.steps.now ws e all c.args.last refl there is, tt)

pub loop-k-preserved-in-Some : goal.loop-k-preserved-in-Some
loop-k-preserved-in-Some c =
    let some = c.loop-k-test.true in
    let short = c.loop-k.invariant.0 in
    let less : c.loop-k.k ≡ (c.loop-k.k - 1) + 1 = omega (arith, some) in
    let within : c.loop-k.k - 1 < length c.args.steps.now = omega (arith, some, short) in (
      omega (arith, short),
      before_goes c.args.steps.now c.loop-k.k (c.loop-k.k - 1) c.loop-k.place _ c.loop-k.invariant.1 less within c.in-Some.ensures.whole,
      λ ws e there is.
          goes_on c.args.steps.now ws e c.loop-k.k (c.loop-k.k - 1) c.loop-k.touch c.loop-k.place (c.loop-k.invariant.2 ws e there is) less _ there c.carried.result c.carried.ensures.carries c.in-Some.above c.in-Some.is,
      c.loop-k.invariant.3,
    )

pub loop-k-preserved : goal.loop-k-preserved
loop-k-preserved c =
    let some = c.loop-k-test.true in
    let short = c.loop-k.invariant.0 in
    let less : c.loop-k.k ≡ (c.loop-k.k - 1) + 1 = omega (arith, some) in
    let within : c.loop-k.k - 1 < length c.args.steps.now = omega (arith, some, short) in (
      omega (arith, short),
      before_stops c.args.steps.now (c.loop-k.k - 1),
      λ ws e there is.
          stops c.args.steps.now ws e c.loop-k.k (c.loop-k.k - 1) c.loop-k.touch c.loop-k.place (c.loop-k.invariant.2 ws e there is) less _ there c.carried.result c.carried.ensures.carries c.in-None.is,
      within,
    )

pub returns-clause-seen : goal.returns-clause-seen
returns-clause-seen c = λ ws e there is. let none : c.loop-k.k ≡ 0 = omega (arith, c.loop-k-test.false) in ends c.args.steps.now ws e c.loop-k.k c.loop-k.touch c.loop-k.place (c.loop-k.invariant.2 ws e there is) none

pub returns-clause-before : goal.returns-clause-before
returns-clause-before c = let none : c.loop-k.k ≡ 0 = omega (arith, c.loop-k-test.false) in before_ends c.args.steps.now c.loop-k.k c.loop-k.place c.loop-k.invariant.1 none

pub returns-clause-within : goal.returns-clause-within
returns-clause-within c = c.loop-k.invariant.3
