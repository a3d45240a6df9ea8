use Rattle.ild_typed_fronts.proofs.Pathing.{paths_of_fronts}
use Rattle.ild_typed_fronts.proofs.Seeing.{parts_of_fronts, tables_of_fronts}
use Rattle.ild_typed_fronts.proofs.laws.fronts_have_parts.Goals as goal

pub returns : goal.returns
returns c = record { parts = parts_of_fronts; tables = tables_of_fronts; paths = paths_of_fronts }
