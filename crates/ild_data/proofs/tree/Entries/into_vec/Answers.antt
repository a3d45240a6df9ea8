use Rattle.ild_data.proofs.Rising.{rises_list}
use Rattle.ild_data.proofs.tree.Entries.into_vec.Goals as goal

pub returns-clause-rises : goal.returns-clause-rises
returns-clause-rises c = rises_list _ c.self.invariant
