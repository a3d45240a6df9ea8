use Rattle.std.proofs.lemmas.Result.{err_from_is_err_and}
use Rattle.ild_resolve.specs.inside.Numbers.{number_in}
use Rattle.ild_resolve.proofs.table.push_decl.Goals as goal

pub returns-in_err-layout-in-Advanced-clause-words : goal.returns-in_err-layout-in-Advanced-clause-words
returns-in_err-layout-in-Advanced-clause-words c =
    let p = err_from_is_err_and c.from_residual.result c.from_residual.ensures.1 in
    rw (c.in-Advanced.is, p.1, p.2) (c.in_err-layout-in-Advanced.ensures.words (number_in c.args.numbers.now))

pub returns-in_ok-layout-in-Advanced-clause-words : goal.returns-in_ok-layout-in-Advanced-clause-words
returns-in_ok-layout-in-Advanced-clause-words c = rw c.in-Advanced.is (c.in_ok-layout-in-Advanced.ensures.words (number_in c.args.numbers.now))
