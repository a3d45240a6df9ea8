use Rattle.ild_bulk_walker.proofs.Calling.{gets-what-it-enters, gets-in-all}
use Rattle.ild_bulk_walker.proofs.laws.nodes_are_got_once.Goals as goal

pub returns-clause-enters : goal.returns-clause-enters
returns-clause-enters c = λ h p rs m n v w calls. gets-what-it-enters p h rs m n v w calls

pub returns-clause-all : goal.returns-clause-all
returns-clause-all c = λ h p rs m n v w slots held many new calls told nodes. gets-in-all p h rs m n v w slots held many new calls told nodes
