use Rattle.ild_path_long.proofs.Parts.{parts_are_in_blocks}
use Rattle.ild_path_long.proofs.laws.parts_are_in_blocks.Goals as goal

pub returns : goal.returns
returns c = parts_are_in_blocks
