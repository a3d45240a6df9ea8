use Rattle.ild_path_edits.proofs.Moves.{last_is_changed, insert_moves, inserted_stands, delete_moves}
use Rattle.ild_path_edits.proofs.laws.elements_move.Goals as goal

pub returns : goal.returns
returns c = record { last = last_is_changed; inserted = insert_moves; there = inserted_stands; deleted = delete_moves }
