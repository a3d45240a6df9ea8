use Rattle.ild_named_lines.proofs.Readings.{lines_read_beneath}
use Rattle.ild_named_lines.proofs.laws.lines_are_read_beneath.Goals as goal

pub returns : goal.returns
returns c = lines_read_beneath
