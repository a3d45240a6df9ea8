use Rattle.ild_accept.proofs.Ranking.{low_is_none}
use Rattle.ild_accept.proofs.cycle.is_cyclic.Goals as goal

pub returns-then-branch : goal.returns-then-branch
returns-then-branch c = low_is_none c.args.schema.now c.args.ranks.now c.args.n (c.requires.ranked c.if-ranked.true) (c.in_ok-is_low.ensures c.if-branch.true)
