use Rattle.std.proofs.Common.{◌+◌, Some, sym, subst}
use Rattle.ild_resolve.specs.inside.Marks.{Sought}
use Rattle.ild_resolve.proofs.Walks.{sought_round}
use Rattle.ild_resolve.proofs.circular.search_from.Goals as goal

pub returns-in-Some : goal.returns-in-Some
returns-in-Some c =
    let more = sought_round c.args.rows.now c.args.marks.now c.walk.new.marks c.args.from c.in-Some.at c.least_of_round.result c.args.first c.requires.so_far c.in-Some.ensures c.least_of_round.ensures in
    subst (λ n. Sought c.args.rows.now c.walk.new.marks (c.args.from + 1) (Some n)) (sym c.lesser.ensures) more
