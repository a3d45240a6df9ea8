use Rattle.ild_path_edits.proofs.Stops.{stops_tell, path_faults}
use Rattle.ild_path_edits.proofs.laws.stops_tell.Goals as goal

pub returns : goal.returns
returns c = record { stops = stops_tell; faults = path_faults }
