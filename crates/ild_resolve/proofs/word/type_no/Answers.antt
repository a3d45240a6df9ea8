use Rattle.std.proofs.Common.{inr, sym}
use Rattle.ild_resolve.specs.inside.Numbers.{number_in}
use Rattle.ild_resolve.proofs.Words.{unknown}
use Rattle.ild_resolve.proofs.word.type_no.Goals as goal

pub returns-in-None-clause-words : goal.returns-in-None-clause-words
returns-in-None-clause-words c =
    let other = rw c.as_str-text.ensures.same at c.if-eq.ensures in
    let none = rw c.as_str-text.ensures.same at c.in-None.ensures.value in
    inr (unknown (number_in c.args.numbers.now) c.args.name.now (sym other) (sym none))
