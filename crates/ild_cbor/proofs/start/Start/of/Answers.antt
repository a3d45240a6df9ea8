use Rattle.std.proofs.Common.{ℕ, List, ◌≡◌, ap, ◌∙◌}
use Rattle.ild_cbor.proofs.Steps.{some_is}
use Rattle.ild_cbor.proofs.Shapes.{opens_in}
use Rattle.ild_cbor.proofs.start.Start.of.Goals as goal

pub returns-in-Some-clause-start : goal.returns-in-Some-clause-start
returns-in-Some-clause-start c = λ major n rest lt e.
    let o = opens_in c.args.bytes.now major n rest lt e c.in-len1-up.len_at_least in
    let same : (c.in-Some.argument, c.in-Some.rest.now) ≡ (n, rest) = some_is (c.in-Some.argument, c.in-Some.rest.now) (n, rest) (c.in-Some.ensures.gives ∙ o.low) in
    record { major_is = o.high; argument_is = ap (λ (p : ℕ × List ℕ). p.0) same; rest_is = ap (λ (p : ℕ × List ℕ). p.1) same }

pub returns-in-None-clause-start : goal.returns-in-None-clause-start
returns-in-None-clause-start c = λ major n rest lt e.
    let o = opens_in c.args.bytes.now major n rest lt e c.in-len1-up.len_at_least in
    let low = o.low in
    let none = c.in-None.ensures.gives in
    absurd cc
