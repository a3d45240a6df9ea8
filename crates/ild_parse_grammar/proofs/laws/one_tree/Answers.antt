use Rattle.ild_parse_grammar.proofs.OneTree.{one_tree_lem}
use Rattle.ild_parse_grammar.proofs.laws.one_tree.Goals as goal

pub returns : goal.returns
returns c = one_tree_lem
