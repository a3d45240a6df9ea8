use Rattle.ild_path_brought.proofs.Placing.{places_of_brought, nodes_of_brought}
use Rattle.ild_path_brought.proofs.laws.brought_parts_stand.Goals as goal

pub returns : goal.returns
returns c = record { places = places_of_brought; nodes = nodes_of_brought }
