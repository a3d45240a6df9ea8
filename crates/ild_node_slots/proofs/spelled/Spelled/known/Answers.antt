use Rattle.ild_node_slots.proofs.Trees.{faultless, spelled-value}
use Rattle.ild_node_slots.proofs.spelled.Spelled.known.Goals as goal

pub invariant_of-result : goal.invariant_of-result
invariant_of-result c = faultless _ c.requires.of c.requires.within c.requires.is

pub returns : goal.returns
returns c = λ t w e. spelled-value t _ w e
