use Rattle.ild_parse_grammar.proofs.OnePlace.{fronts_begin_lem}
use Rattle.ild_parse_grammar.proofs.laws.fronts_begin.Goals as goal

pub returns : goal.returns
returns c = fronts_begin_lem
