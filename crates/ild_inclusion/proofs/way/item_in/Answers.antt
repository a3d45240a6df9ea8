use Rattle.ild_inclusion.specs.Branches.{found}
use Rattle.ild_inclusion.proofs.way.item_in.Goals as goal

pub returns-in-Ok : goal.returns-in-Ok
returns-in-Ok c = let x = c.in-Ok.ensures.found in found x.0 x.1 x.2.stands
