use Rattle.ild_beneath_read.proofs.Appending.{elements_result, no_pair_elements}
use Rattle.ild_beneath_read.proofs.node.elements_of.Goals as goal

pub returns-in-Some : goal.returns-in-Some
returns-in-Some c = λ d stands. elements_result d c.in-Some.field-0-0 c.in-Some.elements c.items.result (c.in-Some.ensures d stands) c.items.ensures

pub returns-in-None : goal.returns-in-None
returns-in-None c = λ d stands. no_pair_elements d (c.in-None.ensures d stands)
