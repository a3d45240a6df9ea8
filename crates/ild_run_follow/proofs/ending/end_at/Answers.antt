use Rattle.std.proofs.Common.{ap, ◌∙◌, arith}
use Rattle.ild_hamt.specs.Descending.{trail_blocks}
use Rattle.ild_open.specs.Blocks.{bytes_in}
use Rattle.ild_path_found.proofs.Walking.{end_none}
use Rattle.ild_path_found.specs.Sites.{end_block}
use Rattle.ild_run_follow.proofs.ending.end_at.Goals as goal

pub returns-then-count-eq0 : goal.returns-then-count-eq0
returns-then-count-eq0 c = end_none (bytes_in c.args.root) _ _ c.blocks-nodes.ensures (omega (arith, c.if-count-eq0.true))

pub returns : goal.returns
returns c = c.of.ensures ∙ c.end_of.ensures ∙ ap (λ b. end_block b (trail_blocks c.args.trail.now)) c.bytes.ensures
