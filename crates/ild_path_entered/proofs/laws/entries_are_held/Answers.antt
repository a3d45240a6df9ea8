use Rattle.ild_path_entered.proofs.Holding.{entries_are_put, entries_are_cut}
use Rattle.ild_path_entered.proofs.laws.entries_are_held.Goals as goal

pub returns : goal.returns
returns c = record { put = entries_are_put; cut = entries_are_cut }
