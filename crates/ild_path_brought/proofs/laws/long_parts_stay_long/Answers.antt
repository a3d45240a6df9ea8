use Rattle.ild_path_brought.proofs.Lasting.{long_brought}
use Rattle.ild_path_brought.proofs.laws.long_parts_stay_long.Goals as goal

pub returns : goal.returns
returns c = long_brought
