use Rattle.std.proofs.Common.{length, length-append, arith}
use Rattle.ild_data.specs.Spell.{head}
use Rattle.ild_splice.proofs.size.text_size.Goals as goal

pub returns-clause-size : goal.returns-clause-size
returns-clause-size c =
    let one = c.head_size.ensures.size 3 in
    let both = length-append (head 3 (length c.args.text.now)) c.args.text.now in
    omega arith
