use Rattle.std.proofs.Common.{◌∙◌, arith}
use Rattle.ild_path_found.proofs.Walking.{end_last, end_none}
use Rattle.ild_path_found.proofs.end.end_of.Goals as goal

pub returns-then-count-eq0 : goal.returns-then-count-eq0
returns-then-count-eq0 c = end_none c.args.root.now _ _ c.blocks-nodes.ensures (omega (arith, c.if-count-eq0.true))

pub returns : goal.returns
returns c = c.as_slice.ensures.same ∙ end_last c.args.root.now _ _ _ c.blocks-nodes.ensures c.index-nodes-count.is (omega (arith, c.if-count-eq0.false))
