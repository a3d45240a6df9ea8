use Rattle.ild_hamt_climb.proofs.Standing.{no_item_fault}
use Rattle.ild_hamt_climb.proofs.element.apart.Goals as goal

pub known_root-requires : goal.known_root-requires
known_root-requires c = no_item_fault c.args.node.now c.spelling.result.now c.spelling.ensures
