use Rattle.std.proofs.Common.{◌+◌, Some, ap, ◌∙◌, sym, subst, arith}
use Rattle.ild_resolve.proofs.Rounds.{Rounds, round_goes, round_closes, round_long, round_stays}
use Rattle.ild_resolve.proofs.circular.least_of_round.Goals as goal

pub returns-in-None : goal.returns-in-None
returns-in-None c = absurd (round_stays c.args.rows.now c.args.from c.loop.at c.loop.least c.loop.counter c.requires.circular c.loop.invariant c.in-None.ensures)

pub returns-then-at-from : goal.returns-then-at-from
returns-then-at-from c = round_closes c.args.rows.now c.args.from c.loop.at c.loop.least c.loop.counter c.loop.invariant (c.in-Some.ensures.1 ∙ ap Some c.if-at-from.true)

pub loop-preserved : goal.loop-preserved
loop-preserved c =
    let goes = round_goes c.args.rows.now c.args.from c.loop.at c.loop.least c.loop.counter c.in-Some.target c.loop.invariant c.in-Some.ensures.0 c.in-Some.ensures.1 in
    subst (λ x. Rounds c.args.rows.now c.args.from c.in-Some.target x (c.loop.counter + 1)) (sym c.min-least.ensures) goes

pub returns : goal.returns
returns c = round_long c.args.rows.now c.args.from c.loop.at c.loop.least c.loop.counter c.requires.circular (omega (arith, c.loop-test.false)) c.loop.invariant
