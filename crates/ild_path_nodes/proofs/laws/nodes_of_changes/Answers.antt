use Rattle.ild_path_nodes.proofs.Changing.{nodes_of_parts, nodes_of_wholes, nodes_of_edits, nodes_of_hamts}
use Rattle.ild_path_nodes.proofs.laws.nodes_of_changes.Goals as goal

pub returns : goal.returns
returns c = record { parts = nodes_of_parts; wholes = nodes_of_wholes; edits = nodes_of_edits; hamts = nodes_of_hamts }
