use Rattle.std.proofs.Common.{sym}
use Rattle.ild_node_slots.proofs.Rooting.{other-int}
use Rattle.ild_node_slots.proofs.root.has_other_int.Goals as goal

pub returns-in-Some-int : goal.returns-in-Some-int
returns-in-Some-int c = λ t h. other-int _ _ t c.args.key.now c.args.wanted c.in-Some.value c.is_int.result (c.in-Some.ensures t h) (λ u s. (_, sym (c.in-Some-int.ensures u s))) c.is_int.ensures
