use Rattle.std.proofs.Common.{length, length-append, arith}
use Rattle.ild_data.specs.Spell.{head}
use Rattle.ild_splice.proofs.entry.passed_with.Goals as goal

pub returns : goal.returns
returns c = λ d stands short.
    let one = c.head_size.ensures.size 3 in
    let both = length-append (head 3 (length c.args.key.now)) c.args.key.now in
    let size = c.span.ensures.size d stands in
    omega arith
