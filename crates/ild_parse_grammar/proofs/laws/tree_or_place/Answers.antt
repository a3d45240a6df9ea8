use Rattle.ild_parse_grammar.proofs.OnePlace.{tree_or_place_lem}
use Rattle.ild_parse_grammar.proofs.laws.tree_or_place.Goals as goal

pub returns : goal.returns
returns c = tree_or_place_lem
