use Rattle.ild_parse_grammar.proofs.OnePlace.{one_wrong_place_lem}
use Rattle.ild_parse_grammar.proofs.laws.one_wrong_place.Goals as goal

pub returns : goal.returns
returns c = one_wrong_place_lem
