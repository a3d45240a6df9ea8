use Rattle.ild_path_edits.proofs.KeepTyped.{edits_keep_types, edits_keep_typed, lines_keep_typed}
use Rattle.ild_path_edits.proofs.laws.edits_keep_types.Goals as goal

pub returns : goal.returns
returns c = record { types = edits_keep_types; typed = edits_keep_typed; lines = lines_keep_typed }
