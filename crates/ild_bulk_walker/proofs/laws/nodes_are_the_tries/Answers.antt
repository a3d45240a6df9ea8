use Rattle.ild_bulk_walker.proofs.Tried.{given-counted}
use Rattle.ild_bulk_walker.proofs.laws.nodes_are_the_tries.Goals as goal

pub returns : goal.returns
returns c = λ h p held slots es form gives. given-counted p h held slots es form gives
