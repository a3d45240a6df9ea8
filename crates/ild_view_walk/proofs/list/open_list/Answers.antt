use Rattle.std.proofs.Common.{arith}
use Rattle.ild_view_walk.proofs.Finding.{list_opens}
use Rattle.ild_view_walk.proofs.list.open_list.Goals as goal

pub returns-clause-opens : goal.returns-clause-opens
returns-clause-opens c = λ rows at t stands.
    list_opens rows c.args.room c.in-Some-checked_sub.room c.args.elem at t c.in-Some.items (c.in-Some.ensures rows t stands) (omega (arith, c.in-Some-checked_sub.ensures))
    c.of.result c.of.ensures.has
