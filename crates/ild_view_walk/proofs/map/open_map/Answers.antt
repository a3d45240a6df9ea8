use Rattle.std.proofs.Common.{arith}
use Rattle.ild_view_walk.proofs.Finding.{map_opens}
use Rattle.ild_view_walk.proofs.map.open_map.Goals as goal

pub returns-clause-opens : goal.returns-clause-opens
returns-clause-opens c = λ key_at at t stands up.
    map_opens c.args.acc.now c.args.room c.in-Some-checked_sub.room c.args.key key_at c.args.value at t c.in-Some.left (c.in-Some.ensures t stands) (omega (arith, c.in-Some-checked_sub.ensures))
    c.of.result c.of.ensures.has
