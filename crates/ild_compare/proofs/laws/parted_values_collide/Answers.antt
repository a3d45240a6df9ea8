use Rattle.ild_compare.proofs.Parted.{parted_collide}
use Rattle.ild_compare.proofs.laws.parted_values_collide.Goals as goal

pub returns : goal.returns
returns c = parted_collide
