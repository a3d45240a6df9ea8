use Rattle.std.proofs.Common.{length, arith}
use Rattle.ild_text.proofs.Behind.{odd_behind, some_from_test}
use Rattle.ild_text.proofs.mark.behind_digits.Goals as goal

pub returns-in-None : goal.returns-in-None
returns-in-None c = λ r b. c.in-None.ensures r ((c.loop-left.invariant r).1 b)

pub returns-else-is_empty : goal.returns-else-is_empty
returns-else-is_empty c =
    let left = c.loop-left.left.now in
    let some = some_from_test (length left) _ c.is_empty.ensures c.if-is_empty.false in
    λ r b. odd_behind left c.loop-left.rest.now r c.loop-left-test.false (λ none. absurd (omega (arith, some, none))) ((c.loop-left.invariant r).1 b)
