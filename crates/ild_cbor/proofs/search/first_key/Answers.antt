use Rattle.std.proofs.Common.{ℕ, List, ap, ◌∙◌}
use Rattle.ild_cbor.proofs.Steps.{some_is}
use Rattle.ild_cbor.proofs.Searches.{key_is}
use Rattle.ild_cbor.proofs.search.first_key.Goals as goal

pub returns-in-Some-clause-key : goal.returns-in-Some-clause-key
returns-in-Some-clause-key c = λ k x lt e.
    ap (λ (p : List ℕ × List ℕ). p.0) (some_is (c.in-Some.parts.0.now, c.in-Some.parts.1.now) (k, x) (c.in-Some.ensures.gives ∙ key_is c.of-start.result c.args.entries.now k x c.of-start.ensures.start lt e))

pub returns-in-Some-clause-value : goal.returns-in-Some-clause-value
returns-in-Some-clause-value c = λ k x lt e.
    ap (λ (p : List ℕ × List ℕ). p.1) (some_is (c.in-Some.parts.0.now, c.in-Some.parts.1.now) (k, x) (c.in-Some.ensures.gives ∙ key_is c.of-start.result c.args.entries.now k x c.of-start.ensures.start lt e))

pub returns-in-None-clause-key : goal.returns-in-None-clause-key
returns-in-None-clause-key c = λ k x lt e.
    let some = key_is c.of-start.result c.args.entries.now k x c.of-start.ensures.start lt e in
    let none = c.in-None.ensures.gives in
    absurd cc

pub returns-in-None-clause-value : goal.returns-in-None-clause-value
returns-in-None-clause-value c = λ k x lt e.
    let some = key_is c.of-start.result c.args.entries.now k x c.of-start.ensures.start lt e in
    let none = c.in-None.ensures.gives in
    absurd cc
