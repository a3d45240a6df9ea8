use Rattle.std.proofs.Common.{rules}
use Rattle.ild_emit.proofs.Cutting.{cut_off}
use Rattle.ild_emit.proofs.head.add_head_at_once.Goals as goal

pub returns-clause-ok : goal.returns-clause-ok
returns-clause-ok c =
    cut_off c.args.out.now.items c.extend_from_slice.new.self.items c.truncate.new.self.items _ c.args.major c.args.n c.len-before.result c.behind_and_low-behind.result.1 c.behind_and_low-behind.result.0 c.ranges.n.fits c.truncate.ensures.items c.in_ok-extend_from_slice.ensures.items (search rules) (search rules) c.behind_and_low-behind.ensures.low c.behind_and_low-behind.ensures.behind
