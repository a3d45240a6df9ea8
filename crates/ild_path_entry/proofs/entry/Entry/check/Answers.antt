use Rattle.ild_cbor.proofs.Blocks.{block_again}
use Rattle.ild_path_entry.proofs.entry.Entry.check.Goals as goal

pub known_root-node-requires : goal.known_root-node-requires
known_root-node-requires c = block_again _ c.args.item.now (record { within = c.as_slice.ensures.within; spelled = c.as_slice.ensures.spelled })
