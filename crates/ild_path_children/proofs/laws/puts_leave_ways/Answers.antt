use Rattle.ild_path_children.proofs.Leaving.{leave_ways}
use Rattle.ild_path_children.proofs.laws.puts_leave_ways.Goals as goal

pub returns : goal.returns
returns c = leave_ways
