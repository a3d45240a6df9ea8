use Rattle.ild_splice.proofs.Placed.{roots_are_at, items_are_at, entries_are_at}
use Rattle.ild_splice.proofs.laws.nodes_are_at_places.Goals as goal

pub returns : goal.returns
returns c = record { root = roots_are_at; item = items_are_at; entry = entries_are_at }
