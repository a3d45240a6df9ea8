use Rattle.ild_run_beneath.proofs.Built.{trees_stand as law}
use Rattle.ild_run_beneath.proofs.trees.trees_stand.Goals as goal

pub returns : goal.returns
returns c = law c.data_are_read.ensures c.children_are_places.ensures c.storable_blocks.ensures c.bare_roots_are_frames.ensures
