use Rattle.ild_parse_grammar.proofs.OneTree.{some_tree_or_place_lem}
use Rattle.ild_parse_grammar.proofs.laws.some_tree_or_place.Goals as goal

pub returns : goal.returns
returns c = some_tree_or_place_lem
