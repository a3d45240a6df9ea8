use Rattle.ild_path_delimiter.proofs.Quiet.{texts_break_nothing}
use Rattle.ild_path_delimiter.proofs.laws.texts_break_nothing.Goals as goal

pub returns : goal.returns
returns c = texts_break_nothing
