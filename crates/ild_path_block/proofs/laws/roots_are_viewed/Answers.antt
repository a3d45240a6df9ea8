use Rattle.ild_path_block.proofs.Allowing.{roots_are_viewed}
use Rattle.ild_path_block.proofs.laws.roots_are_viewed.Goals as goal

pub returns : goal.returns
returns c = roots_are_viewed
