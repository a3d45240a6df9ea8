use Rattle.std.proofs.Common.{sym, ◌∙◌}
use Rattle.ild_edges.proofs.Rows.{block_at-rows}
use Rattle.ild_edges.proofs.blocks.Blocks.get.Goals as goal

pub returns : goal.returns
returns c = c.get.ensures.value ∙ sym (block_at-rows c.args.self.now.rows.entries c.args.id.now.0 c.args.self.now.own)
