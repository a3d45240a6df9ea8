use Rattle.ild_path_room.proofs.AlongPaths.{brought_fits, deleted_fits}
use Rattle.ild_path_room.proofs.laws.rooms_are_left_along_the_path.Goals as goal

pub returns : goal.returns
returns c = record { brought = brought_fits; deleted = deleted_fits }
