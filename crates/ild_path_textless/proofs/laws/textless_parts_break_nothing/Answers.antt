use Rattle.ild_path_textless.proofs.Around.{textless_break_nothing}
use Rattle.ild_path_textless.proofs.laws.textless_parts_break_nothing.Goals as goal

pub returns : goal.returns
returns c = record { nothing = textless_break_nothing }
