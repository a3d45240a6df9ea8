use Rattle.ild_path_item.proofs.Blocks.{no_fault}
use Rattle.ild_path_item.proofs.changed.apart.Goals as goal

pub known_root-requires : goal.known_root-requires
known_root-requires c = no_fault c.args.node.now c.spelling.result.now c.spelling.ensures
