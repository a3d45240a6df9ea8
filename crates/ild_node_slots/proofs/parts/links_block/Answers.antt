use Rattle.std.proofs.Common.{sym, arith}
use Rattle.ild_node_slots.proofs.Linking.{links-first, links-other}
use Rattle.ild_node_slots.proofs.parts.links_block.Goals as goal

pub returns : goal.returns
returns c = links-first c.args.cid.now (omega arith)

pub returns-then-cid-ne-BLOCK_CID : goal.returns-then-cid-ne-BLOCK_CID
returns-then-cid-ne-BLOCK_CID c = sym (links-other c.args.cid.now (λ e. omega arith))
